-- The laws of the first fault.
use Rattle.std.specs.Prelude.{◌≡◌, ℕ, List, ◌++◌, Option}
use Rattle.kt_prog.specs.Outcome.{fault_or_rows}
use Rattle.kt_prog.specs.Runs.{FaultRun}
use Rattle.kt_faults.specs.First.{earlier, IsFirst, AtMostOne, AreSame, fault_else_rows}

-- the earlier one of the first faults of two lists is the first of both
abbrev pub EarlierIsFirst : Type 0
EarlierIsFirst = (one other : Option FaultRun) (fs gs : List FaultRun) → IsFirst one fs → IsFirst other gs
    → IsFirst (earlier one other) (fs ++ gs)

-- the same faults come to the same, in whatever order
abbrev pub SameFaultsSameAnswer : Type 0
SameFaultsSameAnswer = (fs gs : List FaultRun) → AtMostOne fs → AreSame fs gs → (store : List ℕ)
    → fault_or_rows store fs ≡ fault_or_rows store gs

-- the first of some faults is the answer of a run with the same faults, in whatever order it met them
abbrev pub FirstIsAnswer : Type 0
FirstIsAnswer = (one : Option FaultRun) (fs gs : List FaultRun) → IsFirst one fs → AtMostOne fs → AreSame fs gs → (store : List ℕ)
    → fault_or_rows store gs ≡ fault_else_rows store one
