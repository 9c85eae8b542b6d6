-- The tasks, the indexes and the faults of a run.
use Rattle.std.specs.Prelude.{ℕ, List, Option}
use Rattle.kt_law.specs.declared.faults.F.{F}
use Rattle.kt_prog.specs.Calls.{CallTree}

-- a task, and what the operations of its body answered
pub record TaskRun : Type 0 where
  pub path : List ℕ
  pub call : CallTree
  pub answers : List ℕ

-- an index of a loop
pub record IndexRun : Type 0 where
  pub path : List ℕ
  pub index : ℕ
  pub answers : List ℕ

-- a fault of a task's body or of an index, with the line of the statement that met it
pub record FaultRun : Type 0 where
  pub path : List ℕ
  pub index : Option ℕ
  pub fault : F
  pub line : ℕ
