-- What a core shows of an index of a loop.
use Rattle.std.specs.Prelude.{ℕ, List, Option, Some, None, option_map}
use Rattle.kt_prog.specs.Runs.{FaultRun}
use Rattle.kt_prog.specs.Script.{Fault}
use Rattle.kt_tables.specs.Tables.{IndexRow}

-- the fault that ended its body, if it is there
abbrev pub fault_at : Option IndexRow → Option Fault
fault_at None = None
fault_at (Some v) = v.fault

abbrev pub index_fault_run : List ℕ → ℕ → Fault → FaultRun
index_fault_run path i f = record { path = path; index = Some i; fault = f.law; line = f.line }

-- with the path of its loop and its number
abbrev pub fault_of_index : List ℕ → ℕ → Option IndexRow → Option FaultRun
fault_of_index path i index = option_map (index_fault_run path i) (fault_at index)
