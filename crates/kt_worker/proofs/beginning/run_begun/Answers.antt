use Rattle.std.proofs.Common.{sym, ◌∙◌, subst}
use Rattle.kt_rule.specs.declared.views.Spot.{Spot}
use Rattle.kt_rule.specs.declared.views.View.{View}
use Rattle.kt_tasks.specs.Hands.{IsCallIn, IsHeld}
use Rattle.kt_calls.specs.Ranges.{IsRecord}
use Rattle.kt_worker.specs.Levels.{HasBegun, Turns}
use Rattle.kt_worker.proofs.Begun.{in_hand}
use Rattle.kt_worker.proofs.beginning.run_begun.Goals as goal

pub number_of-number-requires : goal.number_of-number-requires
number_of-number-requires g c = record { inside = c.requires.begun.inside; held = in_hand _ _ _ _ _ _ c.requires.begun }

pub call_of-call-requires : goal.call_of-call-requires
call_of-call-requires g c = record {
  inside = subst (λ (v : View). IsRecord v c.args.at) (sym c.number_of-number.ensures.same) c.requires.begun.inside;
  held = subst (λ (v : View). (m : Spot) × IsHeld v c.args.at m) (sym c.number_of-number.ensures.same) (in_hand _ _ _ _ _ _ c.requires.begun);
}

pub run_loop-requires-clause-begun : goal.run_loop-requires-clause-begun
run_loop-requires-clause-begun g c =
    let same = c.call_of-call.ensures.same ∙ c.number_of-number.ensures.same in
    subst (λ (v : View). HasBegun v c.args.worker.program.now c.args.worker.tally c.args.tools.now.stack.levels c.args.at c.args.own) (sym same) c.requires.begun

pub run_loop-requires-clause-call : goal.run_loop-requires-clause-call
run_loop-requires-clause-call g c = subst (λ (v : View). IsCallIn v c.args.at c.call_of-call.result) (sym c.call_of-call.ensures.same) c.call_of-call.ensures.call

pub run_whole-requires-clause-begun : goal.run_whole-requires-clause-begun
run_whole-requires-clause-begun g c =
    let same = c.call_of-call.ensures.same ∙ c.number_of-number.ensures.same in
    subst (λ (v : View). HasBegun v c.args.worker.program.now c.args.worker.tally c.args.tools.now.stack.levels c.args.at c.args.own) (sym same) c.requires.begun

pub run_whole-requires-clause-call : goal.run_whole-requires-clause-call
run_whole-requires-clause-call g c = subst (λ (v : View). IsCallIn v c.args.at c.call_of-call.result) (sym c.call_of-call.ensures.same) c.call_of-call.ensures.call

pub returns-clause-turns : goal.returns-clause-turns
returns-clause-turns g c =
    let same = c.call_of-call.ensures.same ∙ c.number_of-number.ensures.same in
    subst (λ (v : View). Turns v (g.R.Run.view c.run_whole.result.0.run) c.args.worker.program.now c.run_whole.result.0.tally c.run_whole.new.tools.stack.levels c.run_whole.result.1) same c.run_whole.ensures.turns

pub returns-then-is_loop-clause-turns : goal.returns-then-is_loop-clause-turns
returns-then-is_loop-clause-turns g c =
    let same = c.call_of-call.ensures.same ∙ c.number_of-number.ensures.same in
    subst (λ (v : View). Turns v (g.R.Run.view c.run_loop.result.0.run) c.args.worker.program.now c.run_loop.result.0.tally c.run_loop.new.tools.stack.levels c.run_loop.result.1) same c.run_loop.ensures.turns
