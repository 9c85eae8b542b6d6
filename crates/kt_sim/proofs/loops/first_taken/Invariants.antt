use Rattle.std.proofs.Common.{◌≡◌, ◌<◌, ℕ, Some, false, slice_get}
use Rattle.kt_tables.specs.LoopRows.{is_under_way}
use Rattle.kt_tables.specs.Tables.{TaskRow}
use Rattle.kt_sim.proofs.loops.first_taken.Given as goal

abbrev pub invariant-loop-index : goal.invariant-loop-index
invariant-loop-index l =
    (r : TaskRow) → slice_get l.core.table.tasks l.task ≡ Some r → (i : ℕ) → i < l.index → is_under_way (slice_get r.loop.indexes i) ≡ false
