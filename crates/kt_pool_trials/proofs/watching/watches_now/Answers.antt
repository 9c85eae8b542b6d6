use Rattle.kt_worker.proofs.Turning.{calm_stands}
use Rattle.kt_pool_trials.proofs.watching.watches_now.Goals as goal

pub stands-requires : goal.stands-requires
stands-requires g c = record { equipped = c.requires.equipped; stands = (calm_stands _ _ _ _ _ c.args.at _ c.stand.ensures.looked c.requires.calm).0 }
