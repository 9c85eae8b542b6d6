use Rattle.std.proofs.Common.{◌≡◌}
use Rattle.kt_pool_trials.specs.Driven.{Stands}
use Rattle.kt_pool_trials.specs.declared.stages.Stage.TheVariants as S
use Rattle.kt_pool_trials.proofs.Driving.{at_stage, calm_noted, near_record}
use Rattle.kt_pool_trials.proofs.watching.offers.Goals as goal

pub offer-requires-clause-inside : goal.offer-requires-clause-inside
offer-requires-clause-inside g c =
    let d = c.args.driven in
    let h : Stands d.worker.run.hand.seat.token.me.0 d.worker.program.now d.worker.tally d.tools.stack.levels (S.Noted c.in-Noted.at c.in-Noted.state) =
    at_stage d.worker.run.hand.seat.token.me.0 d.worker.program.now d.worker.tally d.tools.stack.levels d.stage (S.Noted c.in-Noted.at c.in-Noted.state) c.in-Noted.is c.requires.driven.stands in
    near_record _ _ _ _ c.in-Noted.at h.0 h.2

pub stands-requires-in-Lost : goal.stands-requires-in-Lost
stands-requires-in-Lost g c =
    let d = c.args.driven in
    let h : Stands d.worker.run.hand.seat.token.me.0 d.worker.program.now d.worker.tally d.tools.stack.levels (S.Noted c.in-Noted.at c.in-Noted.state) =
    at_stage d.worker.run.hand.seat.token.me.0 d.worker.program.now d.worker.tally d.tools.stack.levels d.stage (S.Noted c.in-Noted.at c.in-Noted.state) c.in-Noted.is c.requires.driven.stands in
    let lost = (c.in-Lost.ensures {u = tt}).claimed in
    record { equipped = c.requires.driven.equipped; stands = calm_noted _ _ _ _ _ _ (lost.2 h.1.own h.1.rest h.1.notes) h.0 }
