-- What a run comes to.
use Rattle.std.specs.Prelude.{ℕ, List, [], ◌∷◌, length, Bool, true, false, Option, Some, None, ◌||◌, not, ◌&&◌, nat_lt, nat_eq, if◌then◌else◌}
use Rattle.kt_law.specs.declared.limits.TheConstants.{INDEXES, TASKS}
use Rattle.kt_order.specs.Sequential.{Run}
use Rattle.kt_prog.specs.Runs.{FaultRun}
use Rattle.kt_prog.specs.Entries.{tasks_of, indexes_of, faults_of}
use Rattle.kt_prog.specs.Reference.{machine_of, reference}
use Rattle.kt_prog.specs.declared.programs.Program.{Program}
use Rattle.kt_prog.specs.declared.runs.Outcome.{Outcome}
use Rattle.kt_prog.specs.declared.runs.Outcome.TheVariants as O
use Rattle.kt_prog.specs.declared.runs.Ran.{Ran}

-- a prefix first, else by the first number that differs
abbrev pub path_before : List ℕ → List ℕ → Bool
path_before [] [] = false
path_before [] (n ∷ q) = true
path_before (m ∷ p) [] = false
path_before (m ∷ p) (n ∷ q) = if nat_eq m n then path_before p q else nat_lt m n

-- the body of a call comes before its indexes, which rise
abbrev pub index_before : Option ℕ → Option ℕ → Bool
index_before None None = false
index_before None (Some j) = true
index_before (Some i) None = false
index_before (Some i) (Some j) = nat_lt i j

-- in the order of paths, and at one path in that of indexes
abbrev pub fault_before : FaultRun → FaultRun → Bool
fault_before f g = path_before f.path g.path || not (path_before g.path f.path) && index_before f.index g.index

abbrev pub first_fault : FaultRun → List FaultRun → FaultRun
first_fault f [] = f
first_fault f (g ∷ faults) = first_fault (if fault_before g f then g else f) faults

-- the first fault, or else the rows
abbrev pub fault_or_rows : List ℕ → List FaultRun → Outcome
fault_or_rows store [] = O.Rows store
fault_or_rows store (f ∷ faults) = O.Fault (first_fault f faults)

-- the answer of a run with so many tasks and indexes, these faults and this store
abbrev pub answered : ℕ → ℕ → List FaultRun → List ℕ → Ran
answered tasks indexes faults store =
    if nat_lt TASKS tasks || nat_lt INDEXES indexes then record { outcome = O.Limit; tasks = 0; indexes = 0 }
    else record { outcome = fault_or_rows store faults; tasks = tasks; indexes = indexes }

abbrev pub ran_of : (p : Program) → Run (machine_of p) → Ran
ran_of p r = answered (length (tasks_of p r.entries)) (length (indexes_of p r.entries)) (faults_of p r.entries) r.store

-- the outcome of a program with this input, and its counts
abbrev pub outcome_of : Program → List ℕ → Ran
outcome_of p input = ran_of p (reference p input)
