-- Parts of a body as the code has them.
use Rattle.std.specs.Prelude.{◌≡◌, ℕ, ◌≤◌, List, [], ◌∷◌, Option, Some, None, Result, Ok, Err, nat_lt}
use Rattle.kt_law.specs.Acts.{Deed, Store, Fold}
use Rattle.kt_law.specs.declared.faults.F.TheVariants.{F2}
use Rattle.kt_law.specs.declared.limits.TheConstants.{OBJECTS}
use Rattle.kt_prog.specs.Bodies.{site_of}
use Rattle.kt_prog.specs.Locals.{Site}
use Rattle.kt_prog.specs.Lookups.{assigned, with_local}
use Rattle.kt_prog.specs.Script.{Step, ◌>>=◌, ◌>>◌, give, stop, load, perform, tested}
use Rattle.kt_prog.specs.Statements.{State, at_locals, view}
use Rattle.kt_prog.specs.Values.{View, value_of, object_at}
use Rattle.kt_prog.specs.declared.programs.Expr.{Expr}
use Rattle.kt_prog.specs.declared.runs.Operation.{Operation}
use Rattle.kt_prog.specs.declared.runs.Operation.TheVariants as O
use Rattle.kt_prog.specs.declared.scope.Bound.{Bound}
use Rattle.kt_prog.specs.declared.scope.Bound.TheVariants.{One}
use Rattle.kt_prog.specs.declared.scope.Local.{Local}
use Rattle.kt_body.specs.declared.ops.Early.{Early}
use Rattle.kt_body.specs.declared.ops.Early.TheVariants as early
use Rattle.kt_body.specs.declared.scene.Scene.{Scene}
use Rattle.kt_body.specs.declared.writes.Write.{Write}
use Rattle.kt_body.specs.declared.writes.Write.TheVariants as W

abbrev pub site_in : Scene → Site
site_in s = site_of s.program.now s.in_main s.depth

-- the number behind an object's is a number of 32 bits
abbrev pub IsSmall : Bound → Type 0
IsSmall (One object) = object ≤ OBJECTS
IsSmall _ = Unit {0}

abbrev pub AllSmall : List Local → Type 0
AllSmall [] = Unit {0}
AllSmall (l ∷ locals) = IsSmall l.bound × AllSmall locals

abbrev pub IsSmallIn : Option Bound → Type 0
IsSmallIn None = Unit {0}
IsSmallIn (Some b) = IsSmall b

-- a step without operations, which gives this value or stops
abbrev pub Gives : {A : Type 0} → Step A → A → Result (Unit {0}) Early → Type 0
Gives m a (Ok done) = m ≡ give a
Gives {A} m a (Err (early.Fault law line)) = m ≡ stop {A = A} law line
Gives m a (Err early.Halted) = ⊥

-- one name more
abbrev pub named : State → List ℕ → ℕ → Step State
named s name n = do
  locals ← with_local (λ w. w) s.locals name n
  give (at_locals s locals)

-- another number for a name
abbrev pub renamed : State → List ℕ → ℕ → Step State
renamed s name n = do
  locals ← assigned (λ w. w) s.locals name n
  give (at_locals s locals)

abbrev pub deed_of : Write → ℕ → Deed
deed_of W.Store v = Store v
deed_of (W.Fold op) v = Fold op v

abbrev pub operation_of : Write → ℕ → ℕ → ℕ → Operation
operation_of W.Store object element v = O.Store object element v
operation_of (W.Fold op) object element v = O.Fold object element op v

-- an element is tested to be there, and loaded
abbrev pub fetch : (ℕ → ℕ) → ℕ → ℕ → ℕ → Step ℕ
fetch widths line object i = do
  tested (nat_lt i (widths object)) F2 line
  load object i

-- an element is tested to be there, and a value is written to it
abbrev pub put : (ℕ → ℕ) → ℕ → Write → ℕ → ℕ → ℕ → Step (Unit {0})
put widths line write object i n = do
  tested (nat_lt i (widths object)) F2 line
  perform object i (deed_of write n)

-- the object, the index and the value of a write, and the write
abbrev pub written : Write → List ℕ → Expr → Expr → View → Step (Unit {0})
written write name at e v = do
  o ← object_at (λ w. w) v name
  i ← value_of (λ w. w) at v
  n ← value_of (λ w. w) e v
  put v.site.widths v.line write o i n

-- a value for a new name
abbrev pub bound_to : List ℕ → Expr → ℕ → Site → State → Step State
bound_to name e line site s = do
  n ← value_of (λ w. w) e (view site s line)
  named s name n

-- a value for a name that is there
abbrev pub changed : List ℕ → Expr → ℕ → Site → State → Step State
changed name e line site s = do
  n ← value_of (λ w. w) e (view site s line)
  renamed s name n
