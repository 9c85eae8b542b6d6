use Rattle.std.proofs.Common.{◌≡◌}
use Rattle.kt_worker.specs.Turns.{IsAboutToStart}
use Rattle.kt_worker.proofs.Turning.{begun_given}
use Rattle.kt_pool_trials.specs.declared.stages.Stage.TheVariants as S
use Rattle.kt_pool_trials.proofs.Driving.{at_stage}
use Rattle.kt_pool_trials.proofs.driven.starts.Goals as goal

pub stands-requires : goal.stands-requires
stands-requires g c =
    let d = c.args.driven in
    let h : IsAboutToStart d.worker.run.hand.seat.token.me.0 d.worker.program.now d.worker.tally d.tools.stack.levels c.in-Given.at =
    at_stage d.worker.run.hand.seat.token.me.0 d.worker.program.now d.worker.tally d.tools.stack.levels d.stage (S.Given c.in-Given.at) c.in-Given.is c.requires.stands in
    record { equipped = c.requires.equipped; stands = (begun_given _ _ _ _ _ h _ c.start.ensures.started c.start.ensures.few).0 }
