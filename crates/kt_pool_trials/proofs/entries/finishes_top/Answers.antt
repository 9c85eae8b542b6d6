use Rattle.std.proofs.Common.{◌≡◌, ◌<◌, ◌≤◌, arith}
use Rattle.kt_worker.proofs.Turning.{below_few}
use Rattle.kt_pool_trials.proofs.entries.finishes_top.Goals as goal

pub push-requires : goal.push-requires
push-requires g c = let few = below_few _ _ _ _ _ c.requires.calm in rw c.requires.equipped.room.stack few

pub finish-worker-requires-clause-room : goal.finish-worker-requires-clause-room
finish-worker-requires-clause-room g c =
    let few = below_few _ _ _ _ _ c.requires.calm in let room = c.requires.equipped.room.stack in omega (arith, few, room)
