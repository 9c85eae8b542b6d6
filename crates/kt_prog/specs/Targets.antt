-- What forked names stand for.
use Rattle.std.specs.Prelude.{ℕ, suc, ◌+◌, List, [], ◌∷◌, map, Bool, true, false, Option, Some, None, codes, if◌then◌else◌}
use Rattle.std.specs.Str.{bytes_eq}
use Rattle.kt_law.specs.declared.limits.TheConstants.{DEFINITIONS}
use Rattle.kt_law.specs.declared.operators.Op.TheVariants.{Add, Min}
use Rattle.kt_law.specs.declared.modes.Mode.TheVariants.{R, W, X, Cw}
use Rattle.kt_prog.specs.Locals.{or_else}
use Rattle.kt_prog.specs.declared.kernel.Kernel.{Kernel}
use Rattle.kt_prog.specs.declared.kernel.Kernel.TheVariants as K
use Rattle.kt_prog.specs.declared.programs.Task.{Task}
use Rattle.kt_prog.specs.declared.programs.Index.{Index}
use Rattle.kt_prog.specs.declared.programs.Param.{Param}
use Rattle.kt_prog.specs.declared.programs.Sort.{Sort}
use Rattle.kt_prog.specs.declared.programs.Sort.TheVariants.{Int, One}

-- what can be forked: its number in a call, whether it is a loop, and its parameters
pub record Target : Type 0 where
  pub number : ℕ
  pub is_loop : Bool
  pub sorts : List Sort

abbrev pub is_loop_of : Option Index → Bool
is_loop_of None = false
is_loop_of (Some index) = true

abbrev pub target : ℕ → Task → Target
target number t = record { number = number; is_loop = is_loop_of t.index; sorts = map (λ (p : Param). p.sort) t.params }

-- kernels are numbered behind the largest number of a task or loop
abbrev pub kernel : ℕ → List Sort → Target
kernel k sorts = record { number = DEFINITIONS + k; is_loop = false; sorts = sorts }

-- k_mul(int n, int p, int q, r A, r B, cw(add) C)
abbrev pub mul : Target
mul = kernel 1 (Int ∷ Int ∷ Int ∷ One R ∷ One R ∷ One (Cw Add) ∷ [])

-- k_minplus(int n, int p, int q, r A, r B, cw(min) C)
abbrev pub minplus : Target
minplus = kernel 2 (Int ∷ Int ∷ Int ∷ One R ∷ One R ∷ One (Cw Min) ∷ [])

-- k_stencil(int n, r L, r A, r R, w B)
abbrev pub stencil : Target
stencil = kernel 3 (Int ∷ One R ∷ One R ∷ One R ∷ One W ∷ [])

-- k_scan(int n, int t, r S, x A)
abbrev pub scan : Target
scan = kernel 4 (Int ∷ Int ∷ One R ∷ One X ∷ [])

abbrev pub kernel_target : Kernel → Target
kernel_target K.Mul = mul
kernel_target K.Minplus = minplus
kernel_target K.Stencil = stencil
kernel_target K.Scan = scan

abbrev pub kernel_named : List ℕ → Option Target
kernel_named name =
    if bytes_eq (codes "k_mul") name then Some mul
    else if bytes_eq (codes "k_minplus") name then Some minplus
    else if bytes_eq (codes "k_stencil") name then Some stencil
    else if bytes_eq (codes "k_scan") name then Some scan
    else None

-- the first task or loop of this name, where they are numbered from this number on
abbrev pub task_named : ℕ → List Task → List ℕ → Option Target
task_named number [] name = None
task_named number (t ∷ tasks) name = if bytes_eq t.name name then Some (target number t) else task_named (suc number) tasks name

-- a kernel goes before a task of its name
abbrev pub target_of : List Task → List ℕ → Option Target
target_of tasks name = or_else (kernel_named name) (task_named 1 tasks name)
