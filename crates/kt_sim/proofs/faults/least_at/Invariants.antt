use Rattle.std.proofs.Common.{◌≡◌, Some, drop, slice_get}
use Rattle.kt_sim.specs.Answering.{least_among}
use Rattle.kt_tables.specs.TableLaws.{faults_at, index_faults_from}
use Rattle.kt_tables.specs.Tables.{TaskRow}
use Rattle.kt_sim.proofs.faults.least_at.Given as goal

abbrev pub invariant-loop-index : goal.invariant-loop-index
invariant-loop-index l =
    (r : TaskRow) → slice_get l.core.table.tasks l.task ≡ Some r
    → least_among l.least (index_faults_from l.core.program r.path r.call l.index (drop l.index r.loop.indexes)) ≡ least_among l.fn.least (faults_at l.core.program r)
