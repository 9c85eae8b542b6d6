use Rattle.std.proofs.Common.{ap, refl, arith}
use Rattle.kt_worker.specs.Stacks.{Frames}
use Rattle.kt_worker.proofs.Turning.{below_few, begun_own, calm_crew, calm_lost, entry_inside, entry_small, may_claim, turns_after}
use Rattle.kt_worker.proofs.turns.run_entry.Goals as goal

pub overflow_add-at : goal.overflow_add-at
overflow_add-at g c = let small = entry_small _ _ _ _ _ c.requires.calm c.requires.left in let lt = small.0 in let few = small.1 in omega (arith, lt, few)

pub overflow_add-at-2 : goal.overflow_add-at-2
overflow_add-at-2 g c = let small = entry_small _ _ _ _ _ c.requires.calm c.requires.left in let lt = small.0 in let few = small.1 in omega (arith, lt, few)

pub claim_own-requires : goal.claim_own-requires
claim_own-requires g c = record {
  crew = calm_crew _ _ _ _ c.requires.calm;
  inside = entry_inside _ _ _ _ _ c.requires.calm c.requires.left _ refl;
  mine = may_claim _ _ _ _ _ c.requires.calm c.requires.left _ refl;
}

pub push-requires : goal.push-requires
push-requires g c = let few = below_few _ _ _ _ _ c.requires.calm in rw c.requires.room.stack few

pub run_begun-requires-clause-begun : goal.run_begun-requires-clause-begun
run_begun-requires-clause-begun g c =
    let h = (c.in-Won.ensures {u = tt}) in
    rw (ap (λ (f : Frames). f.levels) c.push.ensures) (begun_own _ _ _ _ _ c.requires.calm c.requires.left _ _ refl h.claimed h.few).0

pub returns-in-Won-clause-turns : goal.returns-in-Won-clause-turns
returns-in-Won-clause-turns g c =
    let h = (c.in-Won.ensures {u = tt}) in
    turns_after (g.R.Run.view c.args.worker.run) (g.R.Run.view c.claim_own.new.self) _ _ _ _ _ (begun_own _ _ _ _ _ c.requires.calm c.requires.left _ _ refl h.claimed h.few).1 c.run_begun.ensures.turns

pub wait_for-requires-in-Stolen-clause-calm : goal.wait_for-requires-in-Stolen-clause-calm
wait_for-requires-in-Stolen-clause-calm g c =
    (calm_lost _ _ _ _ _ c.requires.calm c.requires.left _ _ _ refl (c.in-Stolen.ensures {u = tt}).claimed).0

pub returns-in-Stolen-clause-turns : goal.returns-in-Stolen-clause-turns
returns-in-Stolen-clause-turns g c =
    let lost = calm_lost _ _ _ _ _ c.requires.calm c.requires.left _ _ _ refl (c.in-Stolen.ensures {u = tt}).claimed in
    turns_after (g.R.Run.view c.args.worker.run) (g.R.Run.view c.claim_own.new.self) _ _ _ _ _ lost.1 c.wait_for-in-Stolen.ensures.turns
