-- The faults that a seat met.
use Rattle.std.specs.Prelude.{◌≡◌, suc, map, Option, None, Some}
use Rattle.kt_order.specs.Forest.{Task, Running}
use Rattle.kt_faults.specs.First.{IsFirst}
use Rattle.kt_intervals.specs.Faults.{faults_met}
use Rattle.kt_prog.specs.Reference.{machine_of}
use Rattle.kt_prog.specs.Runs.{FaultRun}
use Rattle.kt_prog.specs.Script.{Fault}
use Rattle.kt_prog.specs.declared.programs.Program.{Program}
use Rattle.kt_runs.specs.ByPath.{Path}
use Rattle.kt_runs.specs.Theorems.{whole_at}
use Rattle.kt_rule.specs.declared.views.Execution.{Execution}
use Rattle.kt_rule.specs.declared.views.Setup.{Setup}
use Rattle.kt_rule.specs.declared.views.View.{View}

-- the task of an execution, in the theory
abbrev pub task_of : (p : Program) → Execution → Task (machine_of p)
task_of p e = record { call = whole_at (map suc e.spot.path) e.spot.berth.call; phase = Running; answers = e.answers; done = e.done }

abbrev pub fault_at : Path → Option Fault → Option FaultRun
fault_at path None = None
fault_at path (Some f) = Some (record { path = map suc path; index = None; fault = f.law; line = f.line })

-- the first fault of the tasks that were run to their end and of the indexes that were retired
abbrev pub IsLeast : Option FaultRun → View → Type 0
IsLeast least v = (j : Setup) → v.setup ≡ Some j → IsFirst least (faults_met j v)
