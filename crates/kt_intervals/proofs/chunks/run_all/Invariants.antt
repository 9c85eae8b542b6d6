use Rattle.std.proofs.Common.{◌≤◌, ◌-◌}
use Rattle.kt_intervals.specs.Chunks.{IsRunWith, IsWithin, Origin}
use Rattle.kt_intervals.proofs.chunks.run_all.Given as goal

abbrev pub invariant-loop-done : goal.invariant-loop-done
invariant-loop-done g l = (l.done ≤ l.count)
    × ((o : Origin) → IsRunWith o l.chunk.program.now l.chunk.firsts.now l.chunk.call.now l.chunk.at
    → IsWithin o l.chunk.from 0 l.count (g.R.Run.view l.fn.seat.run) l.fn.seat.fault
    → IsWithin o l.chunk.from l.done (l.count - l.done) (g.R.Run.view l.now.run) l.now.fault)
