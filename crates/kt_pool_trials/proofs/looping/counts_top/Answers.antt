use Rattle.std.proofs.Common.{◌≡◌, ◌<◌, ◌∷◌, ap, refl}
use Rattle.kt_worker.specs.Stacks.{Frames}
use Rattle.kt_worker.proofs.Turning.{below_few}
use Rattle.kt_pool_trials.proofs.Driving.{equipped_with}
use Rattle.kt_pool_trials.proofs.Intervals.{interval_left, top_record, top_runs}
use Rattle.kt_pool_trials.proofs.looping.counts_top.Goals as goal

pub left-requires : goal.left-requires
left-requires g c = record {
  inside = top_record _ _ _ _ _ _ c.requires.interval;
  runs = top_runs _ _ _ _ _ _ c.requires.interval c.if-level.true;
}

pub push-requires : goal.push-requires
push-requires g c = let few = below_few _ _ _ _ _ c.requires.interval.calm in rw c.requires.equipped.room.stack few

pub stands-requires : goal.stands-requires
stands-requires g c = record {
  equipped = equipped_with _ _ _ _ (ap (λ (f : Frames). f.room) c.push.ensures) refl refl c.requires.equipped;
  stands = rw (ap (λ (f : Frames). f.levels) c.push.ensures)
      (interval_left _ _ _ _ _ _ c.requires.interval c.if-level.true _ _ c.left.ensures.left);
}

pub push-requires-2 : goal.push-requires-2
push-requires-2 g c = let few = below_few _ _ _ _ _ c.requires.interval.calm in rw c.requires.equipped.room.stack few

pub stands-requires-2 : goal.stands-requires-2
stands-requires-2 g c = record {
  equipped = equipped_with _ _ _ _ (ap (λ (f : Frames). f.room) c.push-2.ensures) refl refl c.requires.equipped;
  stands = rw (ap (λ (f : Frames). f.levels) c.push-2.ensures) c.requires.interval;
}
