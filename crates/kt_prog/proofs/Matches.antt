-- What the names stand for while a body runs is what the rules take them for.
use Rattle.std.proofs.Common.{◌≡◌, ◌≤◌, ℕ, suc, ◌+◌, Bool, true, false, List, [], ◌∷◌, ◌++◌, length, Option, Some, None, refl, ap, subst, if◌then◌else◌}
use Rattle.std.specs.Str.{bytes_eq}
use Rattle.kt_law.specs.declared.limits.TheConstants.{ACCESSES, INTS}
use Rattle.kt_law.specs.declared.modes.Mode.{Mode}
use Rattle.kt_law.specs.declared.accesses.Access.{Access}
use Rattle.kt_prog.specs.Locals.{Site, local_of, family_of, bound_of, or_else}
use Rattle.kt_prog.specs.Scope.{Scope, known_of, family_known, kind_of}
use Rattle.kt_prog.specs.declared.sight.Known.{Known}
use Rattle.kt_prog.specs.declared.sight.Kind.TheVariants.{Number, Variable, Index, One, Many}
use Rattle.kt_prog.specs.declared.sight.Kind.{Kind}
use Rattle.kt_rights.specs.Rights.{SomeOf}
use Rattle.kt_prog.specs.declared.scope.Local.{Local}
use Rattle.kt_prog.specs.declared.scope.Bound.{Bound}
use Rattle.kt_prog.specs.declared.scope.Bound.TheVariants as B

module _ (site : Site) (rights : List Access) (own : Option ℕ) where
  -- one of the rights has this mode on the objects from lo up to hi
  abbrev pub HasRight : Mode → ℕ → ℕ → Type 0
  HasRight mode lo hi = SomeOf (λ (a : Access). (a.lo ≤ lo) × (hi ≤ a.hi) × (a.mode ≡ mode)) rights

  abbrev pub Suits : Kind → Bound → Type 0
  Suits Number (B.Number n) = Unit {0}
  Suits Variable (B.Number n) = Unit {0}
  Suits Index (B.Number n) = own ≡ Some n
  Suits (One mode) (B.One object) = HasRight mode object (suc object)
  Suits (Many mode) (B.Many lo hi) = (lo ≤ hi) × HasRight mode lo hi
  Suits _ _ = ⊥

  abbrev pub Matches : List Known → List Local → Type 0
  Matches [] [] = Unit {0}
  Matches (k ∷ names) (l ∷ locals) = (k.name ≡ l.name) × Suits k.kind l.bound × Matches names locals
  Matches _ _ = ⊥

  abbrev pub Found : Option Kind → Option Bound → Type 0
  Found None None = Unit {0}
  Found (Some kind) (Some bound) = Suits kind bound
  Found _ _ = ⊥

  pub found_if : (b : Bool) (kind : Kind) (bound : Bound) (x : Option Kind) (y : Option Bound) → Suits kind bound → Found x y
      → Found (if b then Some kind else x) (if b then Some bound else y)
  found_if true kind bound x y s f = s
  found_if false kind bound x y s f = f

  pub local_found : (names : List Known) (locals : List Local) (name : List ℕ) → Matches names locals
      → Found (known_of names name) (local_of locals name)
  local_found [] [] name m = tt
  local_found [] (l ∷ locals) name m = absurd m
  local_found (k ∷ names) [] name m = absurd m
  local_found (k ∷ names) (l ∷ locals) name m =
      subst (λ (n : List ℕ). Found (known_of (k ∷ names) name) (if bytes_eq n name then Some l.bound else local_of locals name)) m.0
      (found_if (bytes_eq k.name name) k.kind l.bound (known_of names name) (local_of locals name) m.1 (local_found names locals name m.2))

  -- in main the families are found
  abbrev pub FamiliesMatch : Type 0
  FamiliesMatch = (name : List ℕ) → Found (family_known site.families name) (family_of 0 site.families name)

  abbrev pub LoopOk : Option ℕ → Bool → Type 0
  LoopOk None b = Unit {0}
  LoopOk (Some i) b = b ≡ true

  pub record Agrees (s : Scope) (locals : List Local) : Type 0 where
    pub families : s.families ≡ site.families
    pub tasks : s.tasks ≡ site.tasks
    pub in_main : s.in_main ≡ site.in_main
    pub loop : LoopOk own s.in_loop
    pub names : Matches s.names locals
    -- parameters and an index, and the names of statements
    pub room : length s.names ≤ 1 + INTS + ACCESSES + s.lets

  found_else : (x : Option Kind) (y : Option Bound) (x' : Option Kind) (y' : Option Bound) → Found x y → Found x' y'
      → Found (or_else x x') (or_else y y')
  found_else None None x' y' f g = g
  found_else (Some k) (Some b) x' y' f g = f
  found_else None (Some b) x' y' f g = absurd f
  found_else (Some k) None x' y' f g = absurd f

  found_main : (b : Bool) (x : Option Kind) (y : Option Bound) → (b ≡ true → Found x y)
      → Found (if b then x else None) (if b then y else None)
  found_main true x y f = f refl
  found_main false x y f = tt

  -- each name is found as what it is
  pub looked : (site.in_main ≡ true → FamiliesMatch) → (s : Scope) (locals : List Local) (name : List ℕ) → Agrees s locals
      → Found (kind_of s name) (bound_of site locals name)
  looked fam s locals name a =
      rw (a.in_main, a.families) (found_else (known_of s.names name) (local_of locals name) _ _ (local_found s.names locals name a.names)
      (found_main site.in_main (family_known site.families name) (family_of 0 site.families name) (λ e. fam e name)))

  pub matches_snoc : (names : List Known) (locals : List Local) (k : Known) (l : Local) → Matches names locals → k.name ≡ l.name
      → Suits k.kind l.bound → Matches (names ++ k ∷ []) (locals ++ l ∷ [])
  matches_snoc [] [] k l m e s = (e, s, tt)
  matches_snoc [] (x ∷ locals) k l m e s = absurd m
  matches_snoc (x ∷ names) [] k l m e s = absurd m
  matches_snoc (x ∷ names) (y ∷ locals) k l m e s = (m.0, m.1, matches_snoc names locals k l m.2 e s)

  pub same_length : (names : List Known) (locals : List Local) → Matches names locals → length names ≡ length locals
  same_length [] [] m = refl
  same_length [] (x ∷ locals) m = absurd m
  same_length (x ∷ names) [] m = absurd m
  same_length (x ∷ names) (y ∷ locals) m = ap suc (same_length names locals m.2)
