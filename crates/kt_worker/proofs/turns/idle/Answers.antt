use Rattle.kt_worker.proofs.Turning.{calm_stands, idle_ends, idle_inside, turns_after}
use Rattle.kt_worker.proofs.turns.idle.Goals as goal

pub stand-requires : goal.stand-requires
stand-requires g c = record { inside = idle_inside _ _ _ _ c.requires.calm }

pub steal-requires-clause-calm : goal.steal-requires-clause-calm
steal-requires-clause-calm g c = (calm_stands _ _ _ _ _ 0 _ c.stand.ensures.looked c.requires.calm).0

pub returns-in-Finished-clause-turns : goal.returns-in-Finished-clause-turns
returns-in-Finished-clause-turns g c =
    idle_ends _ _ _ _ _ c.stand.result c.requires.none c.stand.ensures.looked c.stand.ensures.state c.in-Finished.is c.requires.calm

pub returns-in-Empty-clause-turns : goal.returns-in-Empty-clause-turns
returns-in-Empty-clause-turns g c =
    turns_after (g.R.Run.view c.args.worker.run) (g.R.Run.view c.stand.new.self) _ _ _ _ _ (calm_stands _ _ _ _ _ 0 _ c.stand.ensures.looked c.requires.calm).1 c.steal.ensures.turns
