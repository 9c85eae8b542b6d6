use Rattle.std.proofs.Common.{◌≡◌, sym, subst}
use Rattle.kt_prog.specs.declared.programs.Program.{Program}
use Rattle.kt_rule.specs.declared.views.View.{View}
use Rattle.kt_tasks.specs.Hands.{IsCallIn}
use Rattle.kt_worker.specs.Levels.{HasBegun}
use Rattle.kt_worker.specs.Looping.{HasInterval}
use Rattle.kt_worker.proofs.Begun.{in_hand}
use Rattle.kt_worker.proofs.Intervals.{opened_interval}
use Rattle.kt_pool_trials.proofs.Driving.{equipped_same}
use Rattle.kt_pool_trials.proofs.looping.opens_now.Goals as goal

pub call_of-call-requires : goal.call_of-call-requires
call_of-call-requires g c = record { inside = c.requires.begun.inside; held = in_hand _ _ _ _ _ _ c.requires.begun }

pub stands-requires : goal.stands-requires
stands-requires g c = record {
  equipped = c.requires.equipped;
  stands = subst (λ (v : View). HasBegun v c.args.worker.program.now c.args.worker.tally c.args.tools.stack.levels c.args.at c.args.own)
      (sym c.call_of-call.ensures.same) c.requires.begun;
}

pub open_loop-worker-requires-clause-begun : goal.open_loop-worker-requires-clause-begun
open_loop-worker-requires-clause-begun g c =
    subst (λ (v : View). HasBegun v c.args.worker.program.now c.args.worker.tally c.args.tools.stack.levels c.args.at c.args.own)
    (sym c.call_of-call.ensures.same) c.requires.begun

pub open_loop-worker-requires-clause-call : goal.open_loop-worker-requires-clause-call
open_loop-worker-requires-clause-call g c =
    subst (λ (v : View). IsCallIn v c.args.at c.call_of-call.result) (sym c.call_of-call.ensures.same) c.call_of-call.ensures.call

pub stands-requires-then-opened : goal.stands-requires-then-opened
stands-requires-then-opened g c =
    let o = c.open_loop-worker in
    record {
      equipped = equipped_same _ _ _ _ _ _ o.ensures.program.0 o.ensures.program.1 o.ensures.room c.requires.equipped;
      stands = subst (λ (p : Program). HasInterval o.result.0.run.hand.seat.token.me.0 p o.result.0.tally o.new.tools.stack.levels c.args.at)
          (sym o.ensures.program.0) (opened_interval _ _ _ _ _ _ _ c.if-opened.true o.ensures.opened).0;
    }

pub stands-requires-2 : goal.stands-requires-2
stands-requires-2 g c =
    let o = c.open_loop-worker in
    record {
      equipped = equipped_same _ _ _ _ _ _ o.ensures.program.0 o.ensures.program.1 o.ensures.room c.requires.equipped;
      stands = tt;
    }
