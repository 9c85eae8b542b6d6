use Rattle.kt_worker.proofs.Intervals.{interval_crew}
use Rattle.kt_pool_trials.proofs.Intervals.{calm_emptied, chunk_now, interval_same}
use Rattle.kt_pool_trials.proofs.looping.takes_now.Goals as goal

pub chunk-requires-clause-crew : goal.chunk-requires-clause-crew
chunk-requires-clause-crew g c = interval_crew _ _ _ _ _ c.requires.interval

pub stands-requires : goal.stands-requires
stands-requires g c = record {
  equipped = c.requires.equipped;
  stands = chunk_now _ _ _ _ _ c.requires.interval _ c.requires.some _ _ (c.in-Got.ensures {u = tt}).taken;
}

pub stands-requires-in-Empty : goal.stands-requires-in-Empty
stands-requires-in-Empty g c = record {
  equipped = c.requires.equipped;
  stands = calm_emptied _ _ _ _ _ c.requires.interval _ (c.in-Empty.ensures {u = tt}).taken;
}

pub stands-requires-in-Moved : goal.stands-requires-in-Moved
stands-requires-in-Moved g c = record {
  equipped = c.requires.equipped;
  stands = interval_same _ _ _ _ _ c.requires.interval _ (c.in-Moved.ensures {u = tt}).taken.0;
}
