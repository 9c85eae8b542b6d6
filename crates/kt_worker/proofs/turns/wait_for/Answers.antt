use Rattle.std.proofs.Common.{ap, true}
use Rattle.kt_worker.specs.Stacks.{Frames}
use Rattle.kt_worker.proofs.Turning.{below_few, calm_stands, calm_stolen, entry_inside, passed, turns_after}
use Rattle.kt_worker.proofs.turns.wait_for.Goals as goal

pub stand-requires : goal.stand-requires
stand-requires g c = record { inside = entry_inside _ _ _ _ _ c.requires.calm c.requires.left _ c.requires.at }

pub push-requires : goal.push-requires
push-requires g c = let few = below_few _ _ _ _ _ c.requires.calm in rw c.requires.room.stack few

pub push-requires-in-Empty : goal.push-requires-in-Empty
push-requires-in-Empty g c = let few = below_few _ _ _ _ _ c.requires.calm in rw c.requires.room.stack few

pub pause_or_steal-requires-clause-calm : goal.pause_or_steal-requires-clause-calm
pause_or_steal-requires-clause-calm g c =
    let s = calm_stands _ _ _ _ _ c.args.at _ c.stand.ensures.looked c.requires.calm in
    rw (ap (λ (f : Frames). f.levels) c.push-in-Empty.ensures) (calm_stolen _ _ _ _ _ s.0 c.requires.left true)

pub returns-in-Finished-clause-turns : goal.returns-in-Finished-clause-turns
returns-in-Finished-clause-turns g c =
    rw (ap (λ (f : Frames). f.levels) c.push.ensures)
    (passed _ _ _ _ _ _ c.requires.calm c.requires.left _ c.stand.result c.requires.at c.stand.ensures.looked c.stand.ensures.state c.in-Finished.is)

pub returns-in-Empty-clause-turns : goal.returns-in-Empty-clause-turns
returns-in-Empty-clause-turns g c =
    let s = calm_stands _ _ _ _ _ c.args.at _ c.stand.ensures.looked c.requires.calm in
    turns_after (g.R.Run.view c.args.worker.run) (g.R.Run.view c.stand.new.self) _ _ _ _ _ s.1 c.pause_or_steal.ensures.turns
