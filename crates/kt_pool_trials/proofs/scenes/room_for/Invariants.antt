use Rattle.std.proofs.Common.{◌≡◌, All, length}
use Rattle.kt_pool_trials.specs.Driven.{IsRoomy}
use Rattle.kt_pool_trials.proofs.scenes.room_for.Given as goal

abbrev pub invariant-loop-worker : goal.invariant-loop-worker
invariant-loop-worker l = record { each : All (IsRoomy l.program) l.room.items; count : length l.room.items ≡ l.worker }
