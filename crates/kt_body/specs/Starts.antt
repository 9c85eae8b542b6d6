-- What the names of a task stand for where its body starts, as the code has it.
use Rattle.std.specs.Prelude.{◌≡◌, ◌≤◌, ℕ, ◌+◌, List, ◌++◌, false, drop, length}
use Rattle.kt_law.specs.declared.limits.TheConstants.{DEFINITIONS, OBJECTS}
use Rattle.kt_law.specs.declared.accesses.Access.{Access}
use Rattle.kt_prog.specs.Bodies.{site_of, statements}
use Rattle.kt_prog.specs.Calls.{CallTree}
use Rattle.kt_prog.specs.Locals.{given}
use Rattle.kt_prog.specs.Operations.{is_loop_at}
use Rattle.kt_prog.specs.Script.{Step}
use Rattle.kt_prog.specs.declared.programs.Param.{Param}
use Rattle.kt_prog.specs.declared.programs.Program.{Program}
use Rattle.kt_prog.specs.declared.programs.Task.{Task}
use Rattle.kt_prog.specs.declared.scope.Local.{Local}
use Rattle.kt_body.specs.declared.start.Used.{Used}

-- a call of main or of a task, which is no loop's and no kernel's
pub record IsTask (p : Program) (call : CallTree) : Type 0 where
  pub no_loop : is_loop_at p call.task ≡ false
  pub no_kernel : call.task ≤ DEFINITIONS

abbrev pub StartsLow : Access → Type 0
StartsLow a = a.lo ≤ OBJECTS

-- each local stands for an int or an access of a call, but for one that stands for an index
pub record IsPart (locals : List Local) (used : Used) (ints : List ℕ) (accesses : List Access) : Type 0 where
  pub counted : length locals ≤ 1 + used.ints + used.accesses
  pub ints_there : used.ints ≤ length ints
  pub accesses_there : used.accesses ≤ length accesses

-- all locals, where these parameters are still to be given what they take
abbrev pub whole_start : List Local → Used → List Param → List ℕ → List Access → List Local
whole_start locals used params ints accesses = locals ++ given params (drop used.ints ints) (drop used.accesses accesses)

-- the statements of a task or an index, where the locals begin with these and go on with the parameters
abbrev pub given_body : Program → CallTree → List Local → Task → Step (Unit {0})
given_body p call first t =
    statements (λ w. w) (site_of p false call.depth) (first ++ given t.params call.ints call.accesses) t.body
