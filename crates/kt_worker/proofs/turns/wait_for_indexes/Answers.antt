use Rattle.std.proofs.Common.{◌≡◌, ◌∷◌, Bool, sym, ap, subst, arith, true, false}
use Rattle.kt_rule.specs.declared.views.View.{View}
use Rattle.kt_worker.specs.Stacks.{Frames}
use Rattle.kt_worker.specs.Levels.{Calm, Turns}
use Rattle.kt_worker.proofs.Intervals.{none_left, some_left}
use Rattle.kt_worker.proofs.Turning.{below_few, runs_loop, top_inside, turns_after}
use Rattle.kt_worker.proofs.turns.wait_for_indexes.Goals as goal

pub left-requires : goal.left-requires
left-requires g c = record { inside = top_inside _ _ _ _ _ c.requires.calm; runs = runs_loop _ _ _ _ _ c.requires.calm c.requires.looping }

pub finish-requires-clause-calm : goal.finish-requires-clause-calm
finish-requires-clause-calm g c = (none_left _ _ _ _ _ _ c.requires.calm _ c.left.ensures.left c.requires.looping c.if-left-eq0.true).0

pub finish-requires-clause-through : goal.finish-requires-clause-through
finish-requires-clause-through g c = record {
  last = λ plain. absurd (both_ways _ c.requires.looping plain);
  emptied = λ looping. (none_left _ _ _ _ _ _ c.requires.calm _ c.left.ensures.left c.requires.looping c.if-left-eq0.true).2;
}
  where
    both_ways : (b : Bool) → b ≡ true → b ≡ false → ⊥
    both_ways true e f = cc
    both_ways false e f = cc

pub finish-requires-clause-room : goal.finish-requires-clause-room
finish-requires-clause-room g c = let few = below_few _ _ _ _ _ c.requires.calm in rw c.requires.room.stack (omega (arith, few))

pub returns-then-left-eq0-clause-turns : goal.returns-then-left-eq0-clause-turns
returns-then-left-eq0-clause-turns g c =
    turns_after (g.R.Run.view c.args.worker.run) (g.R.Run.view c.left.new.self) (g.R.Run.view c.finish.result.run) c.args.worker.program.now
    c.finish.result.tally c.finish.new.stack.levels true
    (none_left _ _ _ _ _ _ c.requires.calm _ c.left.ensures.left c.requires.looping c.if-left-eq0.true).1 c.finish.ensures.turns

pub push-requires : goal.push-requires
push-requires g c = let few = below_few _ _ _ _ _ c.requires.calm in rw c.requires.room.stack few

pub pause_or_steal-requires-clause-calm : goal.pause_or_steal-requires-clause-calm
pause_or_steal-requires-clause-calm g c =
    let same = some_left _ _ _ _ _ _ c.requires.calm _ c.left.ensures.left c.if-left-eq0.false in
    rw (ap (λ (f : Frames). f.levels) c.push.ensures)
    (subst (λ (v : View). Calm v c.args.worker.program.now c.args.worker.tally (c.args.level ∷ c.args.tools.now.stack.levels)) (sym same) c.requires.calm)

pub returns-clause-turns : goal.returns-clause-turns
returns-clause-turns g c =
    let same = some_left _ _ _ _ _ _ c.requires.calm _ c.left.ensures.left c.if-left-eq0.false in
    subst (λ (v : View). Turns v (g.R.Run.view c.pause_or_steal.result.0.run) c.args.worker.program.now c.pause_or_steal.result.0.tally c.pause_or_steal.new.tools.stack.levels c.pause_or_steal.result.1) same c.pause_or_steal.ensures.turns
