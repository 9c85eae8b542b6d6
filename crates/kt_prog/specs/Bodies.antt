-- The body of each call, and of each index of a loop's call.
use Rattle.std.specs.Prelude.{ℕ, zero, suc, ◌-◌, List, [], ◌∷◌, map, Bool, true, false, Option, Some, None, nat_lt, if◌then◌else◌}
use Rattle.kt_law.specs.declared.limits.TheConstants.{DEFINITIONS, STEPS}
use Rattle.kt_order.specs.Body.{Stop}
use Rattle.kt_prog.specs.Calls.{CallTree, Job, Whole, Index}
use Rattle.kt_prog.specs.Script.{Script, astray, Step, ◌>>=◌, ◌>>◌, give, fork}
use Rattle.kt_prog.specs.Locals.{Site, given}
use Rattle.kt_prog.specs.Statements.{block, stmt_of}
use Rattle.kt_prog.specs.Objects.{width_of}
use Rattle.kt_prog.specs.Zeroing.{zero_all}
use Rattle.kt_prog.specs.Kernels.{kernel_body}
use Rattle.kt_prog.specs.declared.scope.Local.{Local}
use Rattle.kt_prog.specs.declared.scope.Bound.TheVariants.{Number}
use Rattle.kt_prog.specs.declared.programs.Program.{Program}
use Rattle.kt_prog.specs.declared.programs.Task.{Task}
use Rattle.kt_prog.specs.declared.programs.Main.{Main}
use Rattle.kt_prog.specs.declared.programs.Index as I
use Rattle.kt_prog.specs.declared.programs.Stmt.{Stmt}

abbrev pub site_of : Program → Bool → ℕ → Site
site_of p in_main depth = record { families = p.families; tasks = p.tasks; widths = width_of p.families; in_main = in_main; depth = depth }

-- the k-th task or loop, counted from 0
abbrev pub task_at : List Task → ℕ → Option Task
task_at [] k = None
task_at (t ∷ tasks) zero = Some t
task_at (t ∷ tasks) (suc k) = task_at tasks k

abbrev pub index_in : Option Task → Option I.Index
index_in None = None
index_in (Some t) = t.index

-- the local that stands for the index
abbrev pub with_index : Option I.Index → ℕ → List Local → List Local
with_index None i locals = locals
with_index (Some index) i locals = record { name = index.name; bound = Number i } ∷ locals

-- n indexes of a loop's call, from this one on
abbrev pub indexes : CallTree → ℕ → ℕ → Step (Unit {0})
indexes call i zero = give tt
indexes call i (suc n) = do
  fork (Index call i)
  indexes call (suc i) n

module _ (lost : Script → Script) where
  -- statements, and as many steps as a body may make
  abbrev pub statements : Site → List Local → List Stmt → Step (Unit {0})
  statements site locals body = do
    s ← block (map (stmt_of lost) body) site (record { locals = locals; steps = STEPS })
    give tt

  abbrev pub main_body : Program → List Main → Step (Unit {0})
  main_body p [] = astray lost tt
  main_body p (m ∷ mains) = statements (site_of p true 0) [] m.body

  -- the statements of a task, which start with its parameters
  abbrev pub task_body : Program → CallTree → Option Task → Step (Unit {0})
  task_body p call None = astray lost tt
  task_body p call (Some t) = statements (site_of p false call.depth) (given t.params call.ints call.accesses) t.body

  -- the statements of an index, which start with the index and the parameters
  abbrev pub index_body : Program → CallTree → ℕ → Option Task → Step (Unit {0})
  index_body p call i None = astray lost tt
  index_body p call i (Some t) = statements (site_of p false call.depth) (with_index t.index i (given t.params call.ints call.accesses)) t.body

  -- the statements of a task, or the indexes of a loop
  abbrev pub task_or_loop : Program → CallTree → Option Task → Option I.Index → Step (Unit {0})
  task_or_loop p call t None = task_body p call t
  task_or_loop p call t (Some index) = indexes call 0 call.length

  -- behind the zeroing: main, a task or a loop, or a kernel
  abbrev pub call_body : Program → CallTree → ℕ → Step (Unit {0})
  call_body p call zero = main_body p p.mains
  call_body p call (suc k) =
      if nat_lt k DEFINITIONS then task_or_loop p call (task_at p.tasks k) (index_in (task_at p.tasks k))
      else kernel_body (width_of p.families) (k - DEFINITIONS) call.ints call.accesses

  -- a call's body begins with its zeroing, an index's doesn't
  abbrev pub job_body : Program → Job → Step (Unit {0})
  job_body p (Whole call) = do
    zero_all (width_of p.families) call.accesses
    call_body p call call.task
  job_body p (Index call i) = index_body p call i (task_at p.tasks (call.task - 1))

  -- what a body does, with `lost` where a rule of the program was broken
  unfoldable pub script_with : Program → Job → Script
  script_with p job = job_body p job (λ _. Stop None)

-- what a body does. Where a rule was broken it goes on with 0 or with nothing, which an accepted program never does
abbrev pub script_of : Program → Job → Script
script_of p job = script_with (λ w. w) p job
