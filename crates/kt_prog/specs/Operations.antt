-- The operations of a body, in order.
use Rattle.std.specs.Prelude.{◌≡◌, ℕ, zero, suc, List, [], ◌∷◌, ◌++◌, Bool, false, Some, None, is_some, nat_lt, slice_get, if◌then◌else◌}
use Rattle.kt_law.specs.Acts.{Deed, Load, Store, Fold}
use Rattle.kt_law.specs.declared.limits.TheConstants.{DEFINITIONS}
use Rattle.kt_order.specs.Body.{Stop, Do, Fork}
use Rattle.kt_prog.specs.Calls.{CallTree, Job, Whole, Index}
use Rattle.kt_prog.specs.Objects.{width_of}
use Rattle.kt_prog.specs.Script.{Script}
use Rattle.kt_prog.specs.Zeroing.{zero_all}
use Rattle.kt_prog.specs.Bodies.{task_at, index_in, script_of}
use Rattle.kt_prog.specs.declared.programs.Program.{Program}
use Rattle.kt_prog.specs.declared.runs.Operation.{Operation}
use Rattle.kt_prog.specs.declared.runs.Operation.TheVariants as O

-- an act, with the next answer if it is a load, and what follows; nothing more is done where a load has no answer
abbrev pub acted : ℕ → ℕ → Deed → (ℕ → List ℕ → List Operation) → List ℕ → List Operation
acted object element Load more [] = []
acted object element Load more (a ∷ answers) = O.Load object element a ∷ more a answers
acted object element (Store v) more answers = O.Store object element v ∷ more 0 answers
acted object element (Fold op v) more answers = O.Fold object element op v ∷ more 0 answers

-- a fork, and what follows; the indexes of a loop have bodies of their own
abbrev pub forked : Job → List Operation → List Operation
forked (Whole call) more = O.Fork call ∷ more
forked (Index call i) more = []

-- what is done where the k-th load finds the k-th answer, with this at the end
abbrev pub trace : List Operation → Script → List ℕ → List Operation
trace end (Stop None) answers = end
trace end (Stop (Some f)) answers = O.Fault f.law f.line ∷ []
trace end (Do act next) answers = acted act.object act.element act.deed (λ a more. trace end (next a) more) answers
trace end (Fork job next) answers = forked job (trace end next answers)

-- the stores of 0 before a body
abbrev pub zeroing : Program → CallTree → List Operation
zeroing p call = trace [] (zero_all (width_of p.families) call.accesses (λ _. Stop None)) []

-- the number in a call is that of a loop
abbrev pub is_loop_at : Program → ℕ → Bool
is_loop_at p zero = false
is_loop_at p (suc k) = if nat_lt k DEFINITIONS then is_some (index_in (task_at p.tasks k)) else false

-- a loop's call without an index has its zeroing alone and no end
abbrev pub end_of : Program → Job → List Operation
end_of p (Whole call) = if is_loop_at p call.task then [] else O.End ∷ []
end_of p (Index call i) = O.End ∷ []

abbrev pub operations : Program → Job → List ℕ → List Operation
operations p job answers = trace (end_of p job) (script_of p job) answers

-- what an operation adds to the answers
abbrev pub heard : Operation → List ℕ
heard (O.Load object element a) = a ∷ []
heard _ = []

-- after these answers and so many operations this one is next; a load is next whatever it will find
abbrev pub IsNext : Program → Job → List ℕ → ℕ → Operation → Type 0
IsNext p job answers count operation = slice_get (operations p job (answers ++ heard operation)) count ≡ Some operation
