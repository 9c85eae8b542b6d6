-- The bodies that a run has done, as its lists of tasks, indexes and faults.
use Rattle.std.specs.Prelude.{ℕ, List, [], ◌∷◌, Option, Some, None}
use Rattle.std.specs.List.{flat_map}
use Rattle.kt_order.specs.Sequential.{Entry}
use Rattle.kt_prog.specs.Calls.{Job, Whole, Index, index_of}
use Rattle.kt_prog.specs.Script.{Fault}
use Rattle.kt_prog.specs.Reference.{Placed, machine_of}
use Rattle.kt_prog.specs.Runs.{TaskRun, IndexRun, FaultRun}
use Rattle.kt_prog.specs.declared.programs.Program.{Program}

abbrev pub task_in : List ℕ → Job → List ℕ → List TaskRun
task_in path (Whole call) answers = record { path = path; call = call; answers = answers } ∷ []
task_in path (Index call i) answers = []

abbrev pub index_in : List ℕ → Job → List ℕ → List IndexRun
index_in path (Whole call) answers = []
index_in path (Index call i) answers = record { path = path; index = i; answers = answers } ∷ []

abbrev pub fault_in : Placed → Option Fault → List FaultRun
fault_in c None = []
fault_in c (Some f) = record { path = c.path; index = index_of c.job; fault = f.law; line = f.line } ∷ []

module _ (p : Program) where
  abbrev pub tasks_of : List (Entry (machine_of p)) → List TaskRun
  tasks_of = flat_map (λ e. task_in e.call.path e.call.job e.answers)

  abbrev pub indexes_of : List (Entry (machine_of p)) → List IndexRun
  indexes_of = flat_map (λ e. index_in e.call.path e.call.job e.answers)

  abbrev pub faults_of : List (Entry (machine_of p)) → List FaultRun
  faults_of = flat_map (λ e. fault_in e.call e.fault)
