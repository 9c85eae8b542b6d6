use Rattle.std.proofs.Common.{◌≡◌, sym, subst}
use Rattle.kt_worker.proofs.Requests.{settled, tried_both}
use Rattle.kt_pool_trials.specs.Driven.{HasAsked, Stands}
use Rattle.kt_pool_trials.specs.declared.stages.Stage.{Stage}
use Rattle.kt_pool_trials.specs.declared.stages.Stage.TheVariants as S
use Rattle.kt_pool_trials.proofs.Driving.{answered, asked_given, at_stage}
use Rattle.kt_pool_trials.proofs.driven.looks.Goals as goal

pub stands-requires : goal.stands-requires
stands-requires g c =
    let d = c.args.driven in
    let v = d.worker.run.hand.seat.token.me.0 in
    let h : HasAsked v d.worker.program.now d.worker.tally d.tools.stack.levels =
    at_stage v d.worker.program.now d.worker.tally d.tools.stack.levels d.stage S.Asking c.in-Asking.is c.requires.stands in
    let looked = c.look-answer.ensures.looked in
    let tried = tried_both _ _ _ c.look-answer.result h.asks
    (settled _ _ looked.0 c.look-answer.result (asked_given _ _ _ _ h) h.asks.free h.asks.leads c.look-answer.ensures.inside c.look-answer.ensures.piece_inside looked.2) in
    record {
      equipped = c.requires.equipped;
      stands = subst (λ (s : Stage). Stands c.look-answer.new.self.hand.seat.token.me.0 d.worker.program.now d.worker.tally d.tools.stack.levels s) (sym c.stage_of-stage.ensures)
          (answered _ _ _ _ _ c.look-answer.result h.calm tried);
    }
