-- The zeroing among the operations of a call.
use Rattle.std.specs.Prelude.{◌≡◌, ℕ, List, ◌++◌, true}
use Rattle.kt_prog.specs.Calls.{CallTree, Whole}
use Rattle.kt_prog.specs.Operations.{is_loop_at, operations, zeroing}
use Rattle.kt_prog.specs.declared.programs.Program.{Program}
use Rattle.kt_prog.specs.declared.runs.Operation.{Operation}

-- a loop's call does its zeroing and nothing more
abbrev pub LoopIsZeroing : Type 0
LoopIsZeroing = (p : Program) (call : CallTree) → is_loop_at p call.task ≡ true → (answers : List ℕ)
    → operations p (Whole call) answers ≡ zeroing p call

-- every call begins with its zeroing
abbrev pub ZeroingIsFirst : Type 0
ZeroingIsFirst = (p : Program) (call : CallTree) (answers : List ℕ)
    → (rest : List Operation) × (operations p (Whole call) answers ≡ zeroing p call ++ rest)
