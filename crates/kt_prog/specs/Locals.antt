-- What names stand for while a body runs.
use Rattle.std.specs.Prelude.{ℕ, ◌+◌, List, [], ◌∷◌, Bool, true, false, Option, Some, None, if◌then◌else◌}
use Rattle.std.specs.Str.{bytes_eq}
use Rattle.kt_law.specs.declared.accesses.Access.{Access}
use Rattle.kt_prog.specs.declared.programs.Family.{Family}
use Rattle.kt_prog.specs.declared.programs.Task.{Task}
use Rattle.kt_prog.specs.declared.programs.Param.{Param}
use Rattle.kt_prog.specs.declared.programs.Sort.{Sort}
use Rattle.kt_prog.specs.declared.programs.Sort.TheVariants as S
use Rattle.kt_prog.specs.declared.scope.Local.{Local}
use Rattle.kt_prog.specs.declared.scope.Bound.{Bound}
use Rattle.kt_prog.specs.declared.scope.Bound.TheVariants.{Number, One, Many}

-- where a body stands: its program, the number of elements of each object, whether it is main's, and the length of its call's path
pub record Site : Type 0 where
  pub families : List Family
  pub tasks : List Task
  pub widths : ℕ → ℕ
  pub in_main : Bool
  pub depth : ℕ

-- what the first local of this name stands for
abbrev pub local_of : List Local → List ℕ → Option Bound
local_of [] name = None
local_of (l ∷ locals) name = if bytes_eq l.name name then Some l.bound else local_of locals name

-- a range stands for its members' objects, a single object for itself
abbrev pub bound_family : Bool → ℕ → ℕ → Bound
bound_family true first members = Many first (first + members)
bound_family false first members = One first

-- what the first family of this name stands for, where the families' objects begin with this number
abbrev pub family_of : ℕ → List Family → List ℕ → Option Bound
family_of first [] name = None
family_of first (f ∷ families) name =
    if bytes_eq f.name name then Some (bound_family f.many first f.members) else family_of (first + f.members) families name

abbrev pub or_else : {A : Type 0} → Option A → Option A → Option A
or_else None y = y
or_else (Some x) y = Some x

-- what a name stands for; families are in sight in main alone
abbrev pub bound_of : Site → List Local → List ℕ → Option Bound
bound_of site locals name = or_else (local_of locals name) (if site.in_main then family_of 0 site.families name else None)

-- the parameters with the ints and the accesses of a call, in order
abbrev pub given_one : List ℕ → Sort → List ℕ → List Access → (List ℕ → List Access → List Local) → List Local
given_one name S.Int [] accesses more = more [] accesses
given_one name S.Int (n ∷ ints) accesses more = record { name = name; bound = Number n } ∷ more ints accesses
given_one name (S.One mode) ints [] more = more ints []
given_one name (S.One mode) ints (a ∷ accesses) more = record { name = name; bound = One a.lo } ∷ more ints accesses
given_one name (S.Many mode) ints [] more = more ints []
given_one name (S.Many mode) ints (a ∷ accesses) more = record { name = name; bound = Many a.lo a.hi } ∷ more ints accesses

abbrev pub given : List Param → List ℕ → List Access → List Local
given [] ints accesses = []
given (p ∷ params) ints accesses = given_one p.name p.sort ints accesses (given params)
