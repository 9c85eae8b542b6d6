-- The generated stencil completes.
use Rattle.std.proofs.Common.{◌≡◌, ◌<◌, ◌≤◌, ℕ, suc, ◌+◌, ◌-◌, ◌*◌, ◌^◌, ◌%◌, List, [], ◌∷◌, Some, None, true, false, codes, map, refl, ap, subst, ◌∙◌, arith}
use Rattle.std.proofs.Math.Nat.{add-mod_left, mod-eq_of_lt}
use Rattle.kt_law.specs.Accesses.{clash_of, clashes}
use Rattle.kt_law.specs.Operators.{apply_of}
use Rattle.kt_law.specs.declared.accesses.Access.{Access}
use Rattle.kt_law.specs.declared.limits.TheConstants.{DEFINITIONS}
use Rattle.kt_law.specs.declared.modes.Mode.TheVariants.{R, W}
use Rattle.kt_law.specs.declared.operators.BinOp.TheVariants as B
use Rattle.kt_prog.specs.Bodies.{site_of}
use Rattle.kt_prog.specs.Calls.{CallTree, Whole}
use Rattle.kt_prog.specs.Locals.{Site, bound_of}
use Rattle.kt_prog.specs.Objects.{width_of}
use Rattle.kt_prog.specs.Script.{Script}
use Rattle.kt_prog.specs.Statements.{block, stmt_of}
use Rattle.kt_prog.specs.Targets.{stencil}
use Rattle.kt_prog.specs.Values.{View}
use Rattle.kt_prog.specs.declared.programs.Expr.{Expr, Num, Var, Bin}
use Rattle.kt_prog.specs.declared.programs.Program.{Program}
use Rattle.kt_prog.specs.declared.scope.Bound.TheVariants.{Many}
use Rattle.kt_prog.specs.declared.scope.Local.{Local}
use Rattle.kt_text.specs.declared.commands.Kind.TheVariants.{Stencil}
use Rattle.kt_gen_runs.specs.Completes.{KindCompletes}
use Rattle.kt_gen.specs.Trees.{each, fork, on, row_args, smooth, stencil_program}
use Rattle.kt_gen_runs.proofs.Runs.{IsChild, IsLeaf, completes}
use Rattle.kt_gen_runs.proofs.Values.{forked, int_given, member_given, more_given, no_length, none_given, value_bin, value_num, value_var}
use Rattle.kt_gen_runs.proofs.Passing.{Passes, numbered, passes_each, passes_fork, passes_more, passes_one, seen_at, times}
use Rattle.kt_gen_runs.proofs.Kernels.{call_quiet, stencil_calm}
use Rattle.kt_gen_runs.proofs.Forking.{above_apart, agreed, apart, below_apart, main_quiet, one_object, times_is, times_le, times_none, wide}

pub four_apart : (a b c d : Access) → clash_of a b ≡ false → clash_of a c ≡ false → clash_of b c ≡ false → clash_of a d ≡ false → clash_of b d ≡ false
    → clash_of c d ≡ false → clashes (a ∷ b ∷ c ∷ d ∷ []) ≡ false
four_apart a b c d e f g h k l = rw (e, f, g, h, k, l) refl

-- one less, modulo 2 ^ 64
less_one : (y : ℕ) → 1 ≤ y → y < 2 ^ 64 → apply_of B.Sub y 1 ≡ Some (y - 1)
less_one y low high =
    let turned : y + 2 ^ 64 - 1 ≡ 2 ^ 64 + (y - 1) = omega (arith, low) in
    let small : y - 1 < 2 ^ 64 = omega (arith, high) in
    ap Some (ap (λ (n : ℕ). n % 2 ^ 64) turned ∙ (add-mod_left (2 ^ 64) (y - 1) ∙ mod-eq_of_lt small))

one_more : (y : ℕ) → y + 1 < 2 ^ 64 → apply_of B.Add y 1 ≡ Some (y + 1)
one_more y high = ap Some (mod-eq_of_lt high)

abbrev row_call : ℕ → ℕ → ℕ → ℕ → CallTree
row_call l a r b = record {
  task = DEFINITIONS + 3;
  depth = 1;
  length = 0;
  ints = 16 ∷ [];
  accesses = one_object l R ∷ one_object a R ∷ one_object r R ∷ one_object b W ∷ [];
}

row_child : (p : Program) (l a r b : ℕ) → width_of p.families l ≡ 16 → width_of p.families a ≡ 16 → width_of p.families r ≡ 16
    → width_of p.families b ≡ 16 → IsChild p (Whole (row_call l a r b))
row_child p l a r b hl ha hr hb =
    call_quiet (IsLeaf p) p (row_call l a r b) (stencil_calm (IsLeaf p) (width_of p.families) 16 l a r b (rw (hl, ha, hr, hb) refl))

rows_below : (l a r b : ℕ) → l < b → a < b → r < b → clashes (row_call l a r b).accesses ≡ false
rows_below l a r b hl ha hr =
    four_apart (one_object l R) (one_object a R) (one_object r R) (one_object b W) (agreed (one_object l R) (one_object a R) refl)
    (agreed (one_object l R) (one_object r R) refl) (agreed (one_object a R) (one_object r R) refl)
    (apart (one_object l R) (one_object b W) (below_apart l b hl)) (apart (one_object a R) (one_object b W) (below_apart a b ha))
    (apart (one_object r R) (one_object b W) (below_apart r b hr))

rows_above : (l a r b : ℕ) → b < l → b < a → b < r → clashes (row_call l a r b).accesses ≡ false
rows_above l a r b hl ha hr =
    four_apart (one_object l R) (one_object a R) (one_object r R) (one_object b W) (agreed (one_object l R) (one_object a R) refl)
    (agreed (one_object l R) (one_object r R) refl) (agreed (one_object a R) (one_object r R) refl)
    (apart (one_object l R) (one_object b W) (above_apart l b hl)) (apart (one_object a R) (one_object b W) (above_apart a b ha))
    (apart (one_object r R) (one_object b W) (above_apart r b hr))

abbrev lost : Script → Script
lost w = w

-- the locals of `main` in the inner `for`
abbrev turn_at : ℕ → List Local
turn_at x = numbered (codes "h") x ∷ []

abbrev row_at : ℕ → ℕ → List Local
row_at x y = numbered (codes "h") x ∷ numbered (codes "j") y ∷ []

module _ (size : ℕ) (few : size ≤ 1024) where
  abbrev p : Program
  p = stencil_program size

  abbrev site : Site
  site = site_of p true 0

  abbrev IsRow : List ℕ → ℕ → Type 0
  IsRow name first = (x y : ℕ) → bound_of site (row_at x y) name ≡ Some (Many first (first + (size + 2)))

  row_passes : (line : ℕ) (from to : List ℕ) (f g x y : ℕ) → IsRow from f → IsRow to g → 1 ≤ y → y < size + 1
      → clashes (row_call (f + (y - 1)) (f + y) (f + (y + 1)) (g + y)).accesses ≡ false
      → IsChild p (Whole (row_call (f + (y - 1)) (f + y) (f + (y + 1)) (g + y)))
      → Passes (IsChild p) lost site (row_at x y) 1 1 0 (stmt_of lost (fork (on line) (codes "k_stencil") None (row_args (on line) from to)))
  row_passes line from to f g x y hf hg low high clear child =
      let at = on line in
      let v : View = seen_at (IsChild p) lost site (row_at x y) line in
      let j : Expr = Var (codes "j") at in
      let call = row_call (f + (y - 1)) (f + y) (f + (y + 1)) (g + y) in
      let j_is = value_var lost (codes "j") at y v refl in
      let before = value_bin lost B.Sub j (Num 1) y 1 (y - 1) v j_is (value_num lost 1 v) (less_one y low (omega (arith, high, few))) in
      let behind = value_bin lost B.Add j (Num 1) y 1 (y + 1) v j_is (value_num lost 1 v) (one_more y (omega (arith, high, few))) in
      passes_fork (IsChild p) lost site at (codes "k_stencil") None (row_args at from to) (row_at x y) call
      (forked lost _ stencil None (row_args at from to) v 0 (record { ints = call.ints; accesses = call.accesses }) refl (no_length lost v)
      (more_given lost _ _ _ _ v _ _ _ (int_given lost at (Num 16) 16 v _ (value_num lost 16 v))
      (more_given lost _ _ _ _ v _ _ _ (member_given lost at from (Bin B.Sub j (Num 1)) R f (f + (size + 2)) (y - 1) (f + (y - 1)) v _ (hf x y) before refl (omega (arith, high)))
      (more_given lost _ _ _ _ v _ _ _ (member_given lost at from j R f (f + (size + 2)) y (f + y) v _ (hf x y) j_is refl (omega (arith, high)))
      (more_given lost _ _ _ _ v _ _ _ (member_given lost at from (Bin B.Add j (Num 1)) R f (f + (size + 2)) (y + 1) (f + (y + 1)) v _ (hf x y) behind refl (omega (arith, high)))
      (more_given lost _ _ _ _ v _ _ _ (member_given lost at to j W g (g + (size + 2)) y (g + y) v _ (hg x y) j_is refl (omega (arith, high)))
      (none_given lost v _)))))) clear refl) child

  width : (o : ℕ) → o < size + 2 + (size + 2 + 0) → width_of p.families o ≡ 16
  width o lt = wide 16 p.families o (refl, (refl, tt)) lt

  smooth_passes : (line : ℕ) (from to : List ℕ) (f g x : ℕ) → IsRow from f → IsRow to g
      → ((y : ℕ) → 1 ≤ y → y < size + 1 → clashes (row_call (f + (y - 1)) (f + y) (f + (y + 1)) (g + y)).accesses ≡ false)
      → ((y : ℕ) → 1 ≤ y → y < size + 1 → IsChild p (Whole (row_call (f + (y - 1)) (f + y) (f + (y + 1)) (g + y))))
      → Passes (IsChild p) lost site (turn_at x) (suc (times size 2)) (times size 1) (times size 0) (stmt_of lost (smooth line size from to))
  smooth_passes line from to f g x hf hg clear child =
      let inner = fork (on (line + 1)) (codes "k_stencil") None (row_args (on (line + 1)) from to) in
      subst (λ (n : ℕ). Passes (IsChild p) lost site (turn_at x) (suc (times n 2)) (times n 1) (times n 0) (stmt_of lost (smooth line size from to))) (omega arith)
      (passes_each (IsChild p) lost site (on line) (codes "j") (Num 1) (Num (size + 1)) (inner ∷ []) (turn_at x) 1 (size + 1) 1 1 0
      (value_num lost 1 _) (value_num lost (size + 1) _) refl (λ v. refl) (λ y low high.
      passes_one (IsChild p) lost site (row_at x y) 1 1 0 (stmt_of lost inner)
      (row_passes (line + 1) from to f g x y hf hg low high (clear y low high) (child y low high))))

  there : (x : ℕ) → Passes (IsChild p) lost site (turn_at x) (suc (times size 2)) (times size 1) (times size 0) (stmt_of lost (smooth 5 size (codes "A") (codes "B")))
  there x =
      let g = 0 + (size + 2) in
      smooth_passes 5 (codes "A") (codes "B") 0 g x (λ x y. refl) (λ x y. refl)
      (λ y low high. rows_below (0 + (y - 1)) (0 + y) (0 + (y + 1)) (g + y) (omega (arith, high)) (omega (arith, high)) (omega (arith, high)))
      (λ y low high. row_child p (0 + (y - 1)) (0 + y) (0 + (y + 1)) (g + y) (width (0 + (y - 1)) (omega (arith, high)))
      (width (0 + y) (omega (arith, high))) (width (0 + (y + 1)) (omega (arith, high))) (width (g + y) (omega (arith, high))))

  back : (x : ℕ) → Passes (IsChild p) lost site (turn_at x) (suc (times size 2)) (times size 1) (times size 0) (stmt_of lost (smooth 8 size (codes "B") (codes "A")))
  back x =
      let f = 0 + (size + 2) in
      smooth_passes 8 (codes "B") (codes "A") f 0 x (λ x y. refl) (λ x y. refl)
      (λ y low high. rows_above (f + (y - 1)) (f + y) (f + (y + 1)) (0 + y) (omega (arith, high)) (omega (arith, high)) (omega (arith, high)))
      (λ y low high. row_child p (f + (y - 1)) (f + y) (f + (y + 1)) (0 + y) (width (f + (y - 1)) (omega (arith, high)))
      (width (f + y) (omega (arith, high))) (width (f + (y + 1)) (omega (arith, high))) (width (0 + y) (omega (arith, high))))

  both : (x : ℕ) → Passes (IsChild p) lost site (turn_at x) (suc (times size 2) + suc (times size 2)) (times size 1 + times size 1) (times size 0 + times size 0)
      (block (map (stmt_of lost) (smooth 5 size (codes "A") (codes "B") ∷ smooth 8 size (codes "B") (codes "A") ∷ [])))
  both x =
      let second = smooth 8 size (codes "B") (codes "A") in
      passes_more (IsChild p) lost site (turn_at x) _ _ _ _ _ _ _ (map (stmt_of lost) (second ∷ [])) (there x)
      (passes_one (IsChild p) lost site (turn_at x) _ _ _ (stmt_of lost second) (back x))

pub stencil_completes : KindCompletes Stencil
stencil_completes size h input =
    let p = stencil_program size in
    let few : size ≤ 1024 = h.1 in
    let turn = smooth 5 size (codes "A") (codes "B") ∷ smooth 8 size (codes "B") (codes "A") ∷ [] in
    let stmt = each (on 4) (codes "h") (Num 0) (Num 2) turn in
    let one : times size 2 ≤ 2048 = times_le size 1024 2 2 few (omega arith) in
    let many : times size 1 ≡ size * 1 = times_is size 1 in
    let none : times size 0 ≡ 0 = times_none size in
    let c = suc (times size 2) + suc (times size 2) in
    let t = times size 1 + times size 1 in
    let i = times size 0 + times size 0 in
    completes p (times 2 t) (times 2 i) (4 * size + 1) 0
    (main_quiet (IsChild p) p.families [] 3 (stmt ∷ []) 13 (suc (times 2 (suc c))) (times 2 t) (times 2 i)
    (passes_one (IsChild p) lost (site_of p true 0) [] (suc (times 2 (suc c))) (times 2 t) (times 2 i) (stmt_of lost stmt)
    (passes_each (IsChild p) lost (site_of p true 0) (on 4) (codes "h") (Num 0) (Num 2) turn [] 0 2 c t i (value_num lost 0 _) (value_num lost 2 _) refl (λ v. refl)
    (λ x low high. both size few x))) (omega (arith, one)))
    (omega (arith, many)) (omega (arith, none)) (omega (arith, few)) (omega arith) input
