-- Which calls fit a program.
use Rattle.std.specs.Prelude.{◌≡◌, ◌≤◌, ◌<◌, ℕ, zero, suc, ◌+◌, ◌-◌, List, [], ◌∷◌, false, Option, Some, None, nat_lt, if◌then◌else◌}
use Rattle.kt_law.specs.Accesses.{clashes}
use Rattle.kt_law.specs.declared.limits.TheConstants.{DEFINITIONS, DEPTH, LENGTH}
use Rattle.kt_law.specs.declared.accesses.Access.{Access}
use Rattle.kt_rights.specs.Rights.{EachOf}
use Rattle.kt_prog.specs.Calls.{CallTree, main_call, Job, Whole, Index}
use Rattle.kt_prog.specs.Objects.{objects_of}
use Rattle.kt_prog.specs.Targets.{Target, target, mul, minplus, stencil, scan}
use Rattle.kt_prog.specs.declared.programs.Program.{Program}
use Rattle.kt_prog.specs.declared.programs.Task.{Task}
use Rattle.kt_prog.specs.declared.programs.Sort.{Sort}
use Rattle.kt_prog.specs.declared.programs.Sort.TheVariants as S

-- the next int or access is that of a parameter, with its mode and for a single object with one member, and the others are as Rest says
abbrev pub GivenOne : Sort → List ℕ → List Access → (List ℕ → List Access → Type 0) → Type 0
GivenOne S.Int [] accesses Rest = ⊥
GivenOne S.Int (n ∷ ints) accesses Rest = Rest ints accesses
GivenOne (S.One mode) ints [] Rest = ⊥
GivenOne (S.One mode) ints (a ∷ accesses) Rest = (a.mode ≡ mode) × (a.hi ≡ a.lo + 1) × Rest ints accesses
GivenOne (S.Many mode) ints [] Rest = ⊥
GivenOne (S.Many mode) ints (a ∷ accesses) Rest = (a.mode ≡ mode) × (a.lo ≤ a.hi) × Rest ints accesses

-- the ints and the accesses are those of the parameters, in their order
abbrev pub AreGiven : List Sort → List ℕ → List Access → Type 0
AreGiven [] ints accesses = (ints ≡ []) × (accesses ≡ [])
AreGiven (s ∷ sorts) ints accesses = GivenOne s ints accesses (AreGiven sorts)

-- the access lies within so many objects
abbrev pub Inside : ℕ → Access → Type 0
Inside objects a = a.hi ≤ objects

-- a call of this task, loop or kernel, where there are so many objects
pub record FitsTarget (objects : ℕ) (call : CallTree) (t : Target) : Type 0 where
  pub number : call.task ≡ t.number
  pub given : AreGiven t.sorts call.ints call.accesses
  pub inside : EachOf (Inside objects) call.accesses
  -- no two accesses clash
  pub apart : clashes call.accesses ≡ false
  pub long : call.length ≤ LENGTH
  -- the length is 0 but for loops
  pub formed : t.is_loop ≡ false → call.length ≡ 0
  pub below_main : 1 ≤ call.depth
  pub deep : call.depth ≤ DEPTH

abbrev pub kernel_at : ℕ → Option Target
kernel_at zero = Some mul
kernel_at (suc zero) = Some minplus
kernel_at (suc (suc zero)) = Some stencil
kernel_at (suc (suc (suc zero))) = Some scan
kernel_at _ = None

-- the k-th task or loop, where they are numbered from this number on
abbrev pub task_target : List Task → ℕ → ℕ → Option Target
task_target [] number k = None
task_target (t ∷ tasks) number zero = Some (target number t)
task_target (t ∷ tasks) number (suc k) = task_target tasks (suc number) k

-- what the number in a call stands for; 0 is main's
abbrev pub target_at : List Task → ℕ → Option Target
target_at tasks zero = None
target_at tasks (suc k) = if nat_lt k DEFINITIONS then task_target tasks 1 k else kernel_at (k - DEFINITIONS)

-- the call of main, or a call of what its number stands for
pub data Fits (p : Program) (call : CallTree) : Type 0 where
  is_main : call ≡ main_call → Fits p call
  is_call : (t : Target) → target_at p.tasks call.task ≡ Some t → FitsTarget (objects_of p.families) call t → Fits p call

-- a body that there may be: that of a call that fits, or that of one of its indexes
abbrev pub FitsJob : Program → Job → Type 0
FitsJob p (Whole call) = Fits p call
FitsJob p (Index call i) = Fits p call × (i < call.length)
