-- The faults of what a seat ran: of the tasks that ended, and of the indexes that were retired, as the entries of a run have them.
use Rattle.std.specs.Prelude.{List, ◌++◌, map}
use Rattle.kt_prog.specs.Entries.{faults_of}
use Rattle.kt_prog.specs.Runs.{FaultRun}
use Rattle.kt_rule.specs.Close.{run_entry, index_entry}
use Rattle.kt_rule.specs.declared.views.Setup.{Setup}
use Rattle.kt_rule.specs.declared.views.Execution.{Execution}
use Rattle.kt_rule.specs.declared.views.IndexRun.{IndexRun}
use Rattle.kt_rule.specs.declared.views.View.{View}

abbrev pub task_faults : (j : Setup) → List Execution → List FaultRun
task_faults j ran = faults_of j.program (map (run_entry j) ran)

abbrev pub index_faults : (j : Setup) → List IndexRun → List FaultRun
index_faults j runs = faults_of j.program (map (index_entry j) runs)

abbrev pub faults_met : (j : Setup) → View → List FaultRun
faults_met j v = task_faults j v.tasks.ran ++ index_faults j v.loops.retired
