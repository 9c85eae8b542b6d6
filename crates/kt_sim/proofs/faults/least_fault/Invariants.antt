use Rattle.std.proofs.Common.{◌≡◌, None, drop}
use Rattle.kt_sim.specs.Answering.{least_among}
use Rattle.kt_tables.specs.TableLaws.{faults_in}
use Rattle.kt_sim.proofs.faults.least_fault.Given as goal

abbrev pub invariant-loop-task : goal.invariant-loop-task
invariant-loop-task l =
    least_among l.least (faults_in l.core.program (drop l.task l.core.table.tasks)) ≡ least_among None (faults_in l.core.program l.core.table.tasks)
