use Rattle.std.proofs.Common.{◌≡◌, ◌<◌, ◌≤◌, ◌+◌, ◌*◌, ap, ◌∙◌, refl, sym, subst, arith, true}
use Rattle.kt_worker.specs.Stacks.{Frames}
use Rattle.kt_worker.proofs.Turning.{below_few, calm_stands, entry_inside, entry_small, passed}
use Rattle.kt_pool_trials.proofs.Driving.{equipped_with}
use Rattle.kt_pool_trials.proofs.entries.passes_next.Goals as goal

pub push-requires : goal.push-requires
push-requires g c = let few = below_few _ _ _ _ _ c.requires.calm in rw c.requires.equipped.room.stack few

pub overflow_add-at : goal.overflow_add-at
overflow_add-at g c =
    let small = entry_small _ _ _ _ _ c.requires.calm (omega (arith, c.if-level.false)) in let lt = small.0 in let few = small.1 in omega (arith, lt, few)

pub overflow_add-at-2 : goal.overflow_add-at-2
overflow_add-at-2 g c =
    let small = entry_small _ _ _ _ _ c.requires.calm (omega (arith, c.if-level.false)) in let lt = small.0 in let few = small.1 in omega (arith, lt, few)

pub stand-requires : goal.stand-requires
stand-requires g c = record { inside = entry_inside _ _ _ _ _ c.requires.calm (omega (arith, c.if-level.false)) _ refl }

pub push-requires-in-Finished : goal.push-requires-in-Finished
push-requires-in-Finished g c = let few = below_few _ _ _ _ _ c.requires.calm in rw c.requires.equipped.room.stack few

pub push-requires-in-Empty : goal.push-requires-in-Empty
push-requires-in-Empty g c = let few = below_few _ _ _ _ _ c.requires.calm in rw c.requires.equipped.room.stack few

pub stands-requires-in-Finished : goal.stands-requires-in-Finished
stands-requires-in-Finished g c =
    let gone = (passed _ _ _ _ _ _ c.requires.calm (omega (arith, c.if-level.false)) _ c.stand.result refl c.stand.ensures.looked c.stand.ensures.state c.in-Finished.is).0 in
    record {
      equipped = equipped_with _ _ _ _ (ap (λ (f : Frames). f.room) c.push-in-Finished.ensures) refl refl c.requires.equipped;
      stands = rw (ap (λ (f : Frames). f.levels) c.push-in-Finished.ensures) gone;
    }

pub stands-requires-in-Empty : goal.stands-requires-in-Empty
stands-requires-in-Empty g c =
    let calm = (calm_stands _ _ _ _ _ _ _ c.stand.ensures.looked c.requires.calm).0 in
    record {
      equipped = equipped_with _ _ _ _ (ap (λ (f : Frames). f.room) c.push-in-Empty.ensures) refl refl c.requires.equipped;
      stands = rw (ap (λ (f : Frames). f.levels) c.push-in-Empty.ensures) calm;
    }
