-- Parts of a fork as the code has them.
use Rattle.std.specs.Prelude.{◌≡◌, ℕ, ◌+◌, ◌≤◌, ◌&&◌, List, [], ◌∷◌, length, Result, Ok, Err, nat_lt, nat_le}
use Rattle.kt_law.specs.declared.faults.F.TheVariants.{F3}
use Rattle.kt_law.specs.declared.limits.TheConstants.{ACCESSES, INTS}
use Rattle.kt_prog.specs.Forks.{Given, range_length}
use Rattle.kt_prog.specs.Lookups.{Range}
use Rattle.kt_prog.specs.Script.{Step, ◌>>◌, give, stop, tested}
use Rattle.kt_prog.specs.Targets as T
use Rattle.kt_prog.specs.declared.programs.Param.{Param}
use Rattle.kt_prog.specs.declared.programs.Sort.{Sort}
use Rattle.kt_prog.specs.declared.programs.Sort.TheVariants as S
use Rattle.kt_body.specs.declared.ops.Early.{Early}
use Rattle.kt_body.specs.declared.ops.Early.TheVariants as early
use Rattle.kt_body.specs.declared.targets.Target.{Target}
use Rattle.kt_body.specs.declared.targets.Target.TheVariants as V

abbrev pub target_in : Target → T.Target
target_in (V.Kernel kernel) = T.kernel_target kernel
target_in (V.Task number task) = T.target number task.now

abbrev pub sort_of : Param → Sort
sort_of p = p.sort

-- a step without operations, which gives this or stops
abbrev pub Comes : {A : Type 0} → Step A → Result A Early → Type 0
Comes m (Ok a) = m ≡ give a
Comes {A} m (Err (early.Fault law line)) = m ≡ stop {A = A} law line
Comes m (Err early.Halted) = ⊥

-- member i of a range
abbrev pub member_at : ℕ → Range → ℕ → Step ℕ
member_at line r i = do
  tested (nat_lt i (range_length r)) F3 line
  give (r.lo + i)

-- the members from a up to b
abbrev pub members_at : ℕ → Range → ℕ → ℕ → Step Range
members_at line r a b = do
  tested (nat_le a b && nat_le b (range_length r)) F3 line
  give (record { lo = r.lo + a; hi = r.lo + b })

abbrev pub ints_in : List Sort → ℕ
ints_in [] = 0
ints_in (S.Int ∷ sorts) = 1 + ints_in sorts
ints_in (S.One mode ∷ sorts) = ints_in sorts
ints_in (S.Many mode ∷ sorts) = ints_in sorts

abbrev pub objects_in : List Sort → ℕ
objects_in [] = 0
objects_in (S.Int ∷ sorts) = objects_in sorts
objects_in (S.One mode ∷ sorts) = 1 + objects_in sorts
objects_in (S.Many mode ∷ sorts) = 1 + objects_in sorts

-- what is passed for parameters of these sorts, behind what was passed, has room in a call
pub record HasRoom (g : Given) (sorts : List Sort) : Type 0 where
  pub ints : length g.ints + ints_in sorts ≤ INTS
  pub accesses : length g.accesses + objects_in sorts ≤ ACCESSES

-- at most one more was passed, for a parameter of this sort
abbrev pub Grows : Sort → Given → Given → Type 0
Grows S.Int g g' = (length g'.ints ≤ length g.ints + 1) × (length g'.accesses ≤ length g.accesses)
Grows (S.One mode) g g' = (length g'.ints ≤ length g.ints) × (length g'.accesses ≤ length g.accesses + 1)
Grows (S.Many mode) g g' = (length g'.ints ≤ length g.ints) × (length g'.accesses ≤ length g.accesses + 1)
