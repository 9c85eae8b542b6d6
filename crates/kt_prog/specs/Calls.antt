-- Calls, and the bodies that a run goes through.
use Rattle.std.specs.Prelude.{ℕ, List, [], Option, Some, None}
use Rattle.kt_law.specs.declared.accesses.Access.{Access}

-- what contracts see of a call: the number of what was forked, the length of its path, the length of a loop, and the arguments
pub record CallTree : Type 0 where
  pub task : ℕ
  pub depth : ℕ
  pub length : ℕ
  pub ints : List ℕ
  pub accesses : List Access

abbrev pub main_call : CallTree
main_call = record { task = 0; depth = 0; length = 0; ints = []; accesses = [] }

-- whose body: that of a call, or that of one index of a loop's call
pub data Job : Type 0 where
  Whole : (call : CallTree) → Job
  Index : (call : CallTree) → (index : ℕ) → Job

-- the call, or the loop's call of an index
abbrev pub call_of : Job → CallTree
call_of (Whole call) = call
call_of (Index call i) = call

-- which index's body it is, none for the body of a call
abbrev pub index_of : Job → Option ℕ
index_of (Whole call) = None
index_of (Index call i) = Some i
