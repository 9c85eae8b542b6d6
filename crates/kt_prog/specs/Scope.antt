-- The names in sight at a place of the text.
use Rattle.std.specs.Prelude.{ℕ, ◌+◌, List, [], ◌∷◌, ◌++◌, Bool, true, false, Option, Some, None, if◌then◌else◌}
use Rattle.std.specs.Str.{bytes_eq}
use Rattle.kt_law.specs.declared.modes.Mode.TheVariants.{Xp}
use Rattle.kt_prog.specs.Locals.{or_else}
use Rattle.kt_prog.specs.declared.programs.Family.{Family}
use Rattle.kt_prog.specs.declared.programs.Task.{Task}
use Rattle.kt_prog.specs.declared.programs.Param.{Param}
use Rattle.kt_prog.specs.declared.programs.Sort.{Sort}
use Rattle.kt_prog.specs.declared.programs.Sort.TheVariants as S
use Rattle.kt_prog.specs.declared.programs.Index as I
use Rattle.kt_prog.specs.declared.sight.Kind.{Kind}
use Rattle.kt_prog.specs.declared.sight.Kind.TheVariants.{Number, Index, One, Many}
use Rattle.kt_prog.specs.declared.sight.Known.{Known}

-- what is in sight in a body: its parameters, its index, and the `let` and `for` names so far; families in main alone
pub record Scope : Type 0 where
  pub families : List Family
  pub tasks : List Task
  pub in_main : Bool
  pub in_loop : Bool
  pub names : List Known
  -- how many of the names are `let` or `for` names
  pub lets : ℕ

-- what the first of these names is
abbrev pub known_of : List Known → List ℕ → Option Kind
known_of [] name = None
known_of (k ∷ names) name = if bytes_eq k.name name then Some k.kind else known_of names name

-- main has xp on every family
abbrev pub kind_family : Bool → Kind
kind_family true = Many Xp
kind_family false = One Xp

abbrev pub family_known : List Family → List ℕ → Option Kind
family_known [] name = None
family_known (f ∷ families) name = if bytes_eq f.name name then Some (kind_family f.many) else family_known families name

-- what a name is, if it is in sight
abbrev pub kind_of : Scope → List ℕ → Option Kind
kind_of s name = or_else (known_of s.names name) (if s.in_main then family_known s.families name else None)

-- with a `let` or `for` name more
abbrev pub with_name : Scope → List ℕ → Kind → Scope
with_name s name kind = record s { names = s.names ++ record { name = name; kind = kind } ∷ []; lets = s.lets + 1 }

abbrev pub kind_sort : Sort → Kind
kind_sort S.Int = Number
kind_sort (S.One mode) = One mode
kind_sort (S.Many mode) = Many mode

abbrev pub known_param : Param → Known
known_param p = record { name = p.name; kind = kind_sort p.sort }

abbrev pub known_index : Option I.Index → List Known
known_index None = []
known_index (Some index) = record { name = index.name; kind = Index } ∷ []
