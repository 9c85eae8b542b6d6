-- The `for`s and the forks of the generated programs.
use Rattle.std.proofs.Common.{◌≡◌, ◌<◌, ◌≤◌, ℕ, zero, suc, ◌+◌, ◌-◌, ◌*◌, Bool, true, false, ◌&&◌, not, List, [], ◌∷◌, ◌++◌, None, length, map, max, min, take, nat_lt, refl, sym, ap, subst, arith, if◌then◌else◌}
use Rattle.std.proofs.Math.Nat.{suc-mul, zero-mul}
use Rattle.std.proofs.lemmas.Bool.Decides.{nat_tests}
use Rattle.kt_law.specs.Accesses.{clash_of, shares}
use Rattle.kt_law.specs.Modes.{agree_of}
use Rattle.kt_law.specs.declared.accesses.Access.{Access}
use Rattle.kt_law.specs.declared.limits.TheConstants.{STEPS}
use Rattle.kt_law.specs.declared.modes.Mode.{Mode}
use Rattle.kt_order.specs.Body.{Stop}
use Rattle.kt_prog.specs.Bodies.{script_of, script_with, site_of}
use Rattle.kt_prog.specs.Calls.{Whole, main_call}
use Rattle.kt_prog.specs.Locals.{Site}
use Rattle.kt_prog.specs.Objects.{objects_of, width_of}
use Rattle.kt_prog.specs.Script.{Script, ◌>>=◌, give}
use Rattle.kt_prog.specs.Statements.{block, stmt_of}
use Rattle.kt_prog.specs.declared.programs.Family.{Family}
use Rattle.kt_prog.specs.declared.programs.Expr.{Num}
use Rattle.kt_prog.specs.declared.programs.Stmt.{Stmt}
use Rattle.kt_prog.specs.declared.programs.Task.{Task}
use Rattle.kt_prog.specs.declared.scope.Local.{Local}
use Rattle.kt_prog.specs.declared.scope.TheConstants.{NAMES}
use Rattle.kt_law.specs.declared.places.Place.{Place}
use Rattle.kt_prog.specs.Calls.{Job}
use Rattle.kt_gen.specs.Trees.{below, program}
use Rattle.kt_gen_runs.proofs.Quiet.{Quiet}
use Rattle.kt_gen_runs.proofs.Values.{value_num}
use Rattle.kt_gen_runs.proofs.Passing.{Passes, numbered, passes_each, passes_one, times}

pub times_is : (n k : ℕ) → times n k ≡ n * k
times_is zero k = sym (zero-mul k)
times_is (suc n) k = omega (arith, times_is n k, suc-mul n k)

pub times_le : (n m k K : ℕ) → n ≤ m → k ≤ K → times n k ≤ times m K
times_le zero m k K h g = omega arith
times_le (suc n) zero k K h g = absurd (omega (arith, h))
times_le (suc n) (suc m) k K h g = omega (arith, g, times_le n m k K (omega (arith, h)) g)

pub times_none : (n : ℕ) → times n 0 ≡ 0
times_none zero = refl
times_none (suc n) = omega (arith, times_none n)

-- ---- accesses that do not clash

abbrev pub one_object : ℕ → Mode → Access
one_object o mode = record { lo = o; hi = o + 1; mode = mode }

and_false : (b c : Bool) → c ≡ false → (b && c) ≡ false
and_false true c e = e
and_false false c e = refl

pub agreed : (a b : Access) → agree_of a.mode b.mode ≡ true → clash_of a b ≡ false
agreed a b e = and_false (shares a b) (not (agree_of a.mode b.mode)) (ap not e)

pub apart : (a b : Access) → shares a b ≡ false → clash_of a b ≡ false
apart a b e = ap (λ (s : Bool). s && not (agree_of a.mode b.mode)) e

pub below_apart : (m n : ℕ) → m < n → nat_lt (max m n) (min (m + 1) (n + 1)) ≡ false
below_apart m n h = grind (arith, nat_tests)

pub above_apart : (m n : ℕ) → n < m → nat_lt (max m n) (min (m + 1) (n + 1)) ≡ false
above_apart m n h = grind (arith, nat_tests)

-- ---- families whose objects are all as wide

abbrev pub AllWide : ℕ → List Family → Type 0
AllWide e [] = Unit {0}
AllWide e (f ∷ families) = (f.elements ≡ e) × AllWide e families

chosen : (b : Bool) (x y e : ℕ) → (b ≡ true → x ≡ e) → (b ≡ false → y ≡ e) → (if b then x else y) ≡ e
chosen true x y e h g = h refl
chosen false x y e h g = g refl

pub wide : (e : ℕ) (families : List Family) (o : ℕ) → AllWide e families → o < objects_of families → width_of families o ≡ e
wide e [] o all lt = absurd (omega (arith, lt))
wide e (f ∷ families) o all lt = chosen (nat_lt o f.members) f.elements (width_of families (o - f.members)) e (λ _. all.0) (λ h.
    let past : f.members ≤ o = grind (arith, nat_tests) in
    wide e families (o - f.members) all.1 (omega (arith, past, lt)))

-- ---- for

module _ (Q : Job → Type 0) (lost : Script → Script) (site : Site) where
  pub passes_below : (at : Place) (name : List ℕ) (to : ℕ) (inner : Stmt) (L : List Local) (c t i : ℕ) → nat_lt (length L) NAMES ≡ true
      → ((v : ℕ) → take (length L) (L ++ numbered name v ∷ []) ≡ L)
      → ((v : ℕ) → v < to → Passes Q lost site (L ++ numbered name v ∷ []) c t i (stmt_of lost inner))
      → Passes Q lost site L (suc (times to (suc c))) (times to t) (times to i) (stmt_of lost (below at name to inner))
  passes_below at name to inner L c t i fits taken all =
      subst (λ (n : ℕ). Passes Q lost site L (suc (times n (suc c))) (times n t) (times n i) (stmt_of lost (below at name to inner))) (omega arith)
      (passes_each Q lost site at name (Num 0) (Num to) (inner ∷ []) L 0 to c t i (value_num lost 0 _) (value_num lost to _) fits taken
      (λ v le lt. passes_one Q lost site (L ++ numbered name v ∷ []) c t i (stmt_of lost inner) (all v lt)))

-- ---- main

pub main_quiet : (Q : Job → Type 0) (families : List Family) (tasks : List Task) (main : ℕ) (body : List Stmt) (end c t i : ℕ)
    → Passes Q (λ w. w) (site_of (program families tasks main body end) true 0) [] c t i (block (map (stmt_of (λ w. w)) body)) → c ≤ STEPS
    → Quiet Q t i (script_of (program families tasks main body end) (Whole main_call))
unfolding script_with ◌>>=◌ give
main_quiet Q families tasks main body end c t i h few =
    h.rest STEPS (STEPS - c) 0 0 t i (λ _. Stop None) (omega (arith, few)) (omega arith) (omega arith) (refl, refl, refl)
