use Rattle.std.proofs.Common.{◌≡◌, ◌≤◌, ◌<◌, ◌∷◌, Bool, refl, ap, sym, subst, arith, true, false}
use Rattle.kt_rule.specs.declared.views.View.{View}
use Rattle.kt_worker.specs.Levels.{Calm}
use Rattle.kt_worker.specs.Stacks.{Frames}
use Rattle.kt_worker.proofs.Intervals.{none_left, some_left}
use Rattle.kt_worker.proofs.Turning.{below_few, runs_loop, top_inside}
use Rattle.kt_pool_trials.proofs.Driving.{equipped_with}
use Rattle.kt_pool_trials.proofs.entries.finishes_loop.Goals as goal

pub left-requires : goal.left-requires
left-requires g c = record { inside = top_inside _ _ _ _ _ c.requires.calm; runs = runs_loop _ _ _ _ _ c.requires.calm c.requires.looping }

pub finish-worker-requires-clause-calm : goal.finish-worker-requires-clause-calm
finish-worker-requires-clause-calm g c = (none_left _ _ _ _ _ _ c.requires.calm _ c.left.ensures.left c.requires.looping c.if-left-eq0.true).0

pub finish-worker-requires-clause-through : goal.finish-worker-requires-clause-through
finish-worker-requires-clause-through g c = record {
  last = λ plain. absurd (both_ways _ c.requires.looping plain);
  emptied = λ looping. (none_left _ _ _ _ _ _ c.requires.calm _ c.left.ensures.left c.requires.looping c.if-left-eq0.true).2;
}
  where
    both_ways : (b : Bool) → b ≡ true → b ≡ false → ⊥
    both_ways true e f = cc
    both_ways false e f = cc

pub finish-worker-requires-clause-room : goal.finish-worker-requires-clause-room
finish-worker-requires-clause-room g c =
    let few = below_few _ _ _ _ _ c.requires.calm in let room = c.requires.equipped.room.stack in omega (arith, few, room)

pub push-requires : goal.push-requires
push-requires g c = let few = below_few _ _ _ _ _ c.requires.calm in rw c.requires.equipped.room.stack few

pub stands-requires-2 : goal.stands-requires-2
stands-requires-2 g c =
    let same = some_left _ _ _ _ _ _ c.requires.calm _ c.left.ensures.left c.if-left-eq0.false in
    record {
      equipped = equipped_with _ _ _ _ (ap (λ (f : Frames). f.room) c.push.ensures) refl refl c.requires.equipped;
      stands = rw (ap (λ (f : Frames). f.levels) c.push.ensures)
          (subst (λ (v : View). Calm v c.args.worker.program.now c.args.worker.tally (c.args.level ∷ c.args.tools.stack.levels)) (sym same) c.requires.calm);
    }
