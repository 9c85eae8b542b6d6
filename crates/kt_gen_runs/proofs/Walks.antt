-- The generated walks complete.
use Rattle.std.proofs.Common.{◌≡◌, ◌<◌, ◌≤◌, ℕ, Bool, zero, suc, ◌+◌, ◌-◌, ◌*◌, List, [], ◌∷◌, Some, None, true, false, codes, map, nat_le, nat_lt, if◌then◌else◌, refl, sym, ap, subst, ◌∙◌, arith}
use Rattle.std.proofs.Math.Nat.{mul_assoc, mul-one}
use Rattle.std.proofs.lemmas.Bool.Decides.{nat_tests}
use Rattle.std.proofs.lemmas.Nat.{mul-le}
use Rattle.kt_law.specs.Accesses.{clash_of, clashes}
use Rattle.kt_law.specs.declared.accesses.Access.{Access}
use Rattle.kt_law.specs.declared.limits.TheConstants.{DEFINITIONS}
use Rattle.kt_law.specs.declared.modes.Mode.TheVariants.{R, W, Cw}
use Rattle.kt_law.specs.declared.operators.Op.TheVariants.{Min}
use Rattle.kt_prog.specs.Bodies.{site_of}
use Rattle.kt_prog.specs.Calls.{CallTree, Whole}
use Rattle.kt_prog.specs.Locals.{Site, bound_of}
use Rattle.kt_prog.specs.Objects.{width_of}
use Rattle.kt_prog.specs.Script.{Script}
use Rattle.kt_prog.specs.Statements.{block, stmt_of}
use Rattle.kt_prog.specs.Targets.{target}
use Rattle.kt_prog.specs.Values.{View}
use Rattle.kt_prog.specs.declared.programs.Expr.{Num, Var, Elem}
use Rattle.kt_prog.specs.declared.programs.Program.{Program}
use Rattle.kt_prog.specs.declared.scope.Bound.TheVariants.{One, Many}
use Rattle.kt_prog.specs.declared.scope.Local.{Local}
use Rattle.kt_text.specs.declared.commands.Kind.TheVariants.{Walks}
use Rattle.kt_gen_runs.specs.Completes.{KindCompletes}
use Rattle.kt_gen.specs.Texts.{least_power, rounds_of}
use Rattle.kt_gen.specs.Trees.{below, copies, copy, each, fork, member, on, one_copied, round, tiles, walks_program}
use Rattle.kt_gen_runs.proofs.Runs.{IsChild, IsLeaf, completes}
use Rattle.kt_gen_runs.proofs.Values.{forked, member_given, more_given, no_length, none_given, object_is, value_num, value_var}
use Rattle.kt_gen_runs.proofs.Passing.{Passes, elem_calm, numbered, passes_each, passes_fork, passes_more, passes_one, passes_store, seen_at, statements_calm, times}
use Rattle.kt_gen_runs.proofs.Kernels.{call_quiet}
use Rattle.kt_gen_runs.proofs.Forking.{above_apart, apart, below_apart, main_quiet, one_object, passes_below, times_is, times_le, times_none, wide}
use Rattle.kt_gen_runs.proofs.Tiles.{TilesFit, steps_of_tiles, tiles_pass}
use Rattle.kt_gen_runs.proofs.Products.{cube, minplus_child, no_cube, read_above, read_below}

abbrev lost : Script → Script
lost w = w

pub two_apart : (a b : Access) → clash_of a b ≡ false → clashes (a ∷ b ∷ []) ≡ false
two_apart a b e = rw e refl

abbrev copy_call : ℕ → ℕ → CallTree
copy_call u w = record { task = 1; depth = 1; length = 0; ints = []; accesses = one_object u R ∷ one_object w W ∷ [] }

abbrev turn_at : ℕ → List Local
turn_at x = numbered (codes "h") x ∷ []

abbrev copy_at : ℕ → ℕ → List Local
copy_at x t = numbered (codes "h") x ∷ numbered (codes "t") t ∷ []

-- the locals of `copy`
abbrev copied : ℕ → ℕ → List Local
copied u w = record { name = codes "P"; bound = One u } ∷ record { name = codes "R"; bound = One w } ∷ []

abbrev copied_at : ℕ → ℕ → ℕ → List Local
copied_at u w v = record { name = codes "P"; bound = One u } ∷ record { name = codes "R"; bound = One w } ∷ numbered (codes "i") v ∷ []

module _ (size : ℕ) (few : size ≤ 12) where
  abbrev p : Program
  p = walks_program size

  abbrev q : ℕ
  q = size * size

  abbrev site : Site
  site = site_of p true 0

  width : (o : ℕ) → o < q + (q + 0) → width_of p.families o ≡ 256
  width o lt = wide 256 p.families o (refl, (refl, tt)) lt

  -- ---- copies

  element_copied : (u w v : ℕ) → width_of p.families u ≡ 256 → width_of p.families w ≡ 256 → v < 256
      → Passes (IsLeaf p) lost (site_of p false 1) (copied_at u w v) 1 0 0 (stmt_of lost (one_copied (on 5)))
  element_copied u w v hu hw lt =
      let view : View = seen_at (IsLeaf p) lost (site_of p false 1) (copied_at u w v) 5 in
      let i_is = value_var lost (codes "i") (on 5) v view refl in
      let there : nat_lt v 256 ≡ true = grind (arith, nat_tests) in
      passes_store (IsLeaf p) lost (site_of p false 1) (on 5) (codes "R") (Var (codes "i") (on 5)) (Elem (codes "P") (on 5) (Var (codes "i") (on 5)))
      (copied_at u w v) w v (object_is lost (codes "R") w view refl) i_is
      (elem_calm (IsLeaf p) lost (site_of p false 1) (codes "P") (on 5) (Var (codes "i") (on 5)) u v view (object_is lost (codes "P") u view refl) i_is
      (ap (nat_lt v) hu ∙ there)) (ap (nat_lt v) hw ∙ there)

  copy_child : (u w : ℕ) → width_of p.families u ≡ 256 → width_of p.families w ≡ 256 → IsChild p (Whole (copy_call u w))
  copy_child u w hu hw =
      let inner = below (on 4) (codes "i") 256 (one_copied (on 5)) in
      let steps : times 256 2 ≤ 512 = omega (arith, times_is 256 2) in
      call_quiet (IsLeaf p) p (copy_call u w)
      (statements_calm (IsLeaf p) lost (site_of p false 1) (copied u w) (inner ∷ []) (suc (times 256 2)) (times 256 0) (times 256 0)
      (passes_one (IsLeaf p) lost (site_of p false 1) (copied u w) (suc (times 256 2)) (times 256 0) (times 256 0) (stmt_of lost inner)
      (passes_below (IsLeaf p) lost (site_of p false 1) (on 4) (codes "i") 256 (one_copied (on 5)) (copied u w) 1 0 0 refl (λ v. refl)
      (λ v lt. element_copied u w v hu hw lt))) (omega (arith, steps)) (times_none 256) (times_none 256))

  abbrev IsFamily : List ℕ → ℕ → Type 0
  IsFamily name first = (x t : ℕ) → bound_of site (copy_at x t) name ≡ Some (Many first (first + q))

  copies_pass : (line : ℕ) (from to : List ℕ) (f g x : ℕ) → IsFamily from f → IsFamily to g
      → ((t : ℕ) → t < q → clashes (copy_call (f + t) (g + t)).accesses ≡ false) → ((t : ℕ) → t < q → IsChild p (Whole (copy_call (f + t) (g + t))))
      → Passes (IsChild p) lost site (turn_at x) (suc (times q 2)) (times q 1) (times q 0) (stmt_of lost (copies line q from to))
  copies_pass line from to f g x hf hg clear child =
      let at = on (line + 1) in
      let i = Var (codes "t") at in
      let args = member at from i ∷ member at to i ∷ [] in
      passes_below (IsChild p) lost site (on line) (codes "t") q (fork at (codes "copy") None args) (turn_at x) 1 1 0 refl (λ v. refl) (λ t lt.
      let v : View = seen_at (IsChild p) lost site (copy_at x t) at.line in
      let call = copy_call (f + t) (g + t) in
      let t_is = value_var lost (codes "t") at t v refl in
      passes_fork (IsChild p) lost site at (codes "copy") None args (copy_at x t) call
      (forked lost _ (target 1 copy) None args v 0 (record { ints = []; accesses = call.accesses }) refl (no_length lost v)
      (more_given lost _ _ _ _ v _ _ _ (member_given lost at from i R f (f + q) t (f + t) v _ (hf x t) t_is refl (omega (arith, lt)))
      (more_given lost _ _ _ _ v _ _ _ (member_given lost at to i W g (g + q) t (g + t) v _ (hg x t) t_is refl (omega (arith, lt)))
      (none_given lost v _))) (clear t lt) refl) (child t lt))

  there : (x : ℕ) → Passes (IsChild p) lost site (turn_at x) (suc (times q 2)) (times q 1) (times q 0) (stmt_of lost (copies 10 q (codes "D") (codes "E")))
  there x =
      copies_pass 10 (codes "D") (codes "E") 0 (0 + q) x (λ x t. refl) (λ x t. refl)
      (λ t lt. two_apart (one_object (0 + t) R) (one_object (0 + q + t) W) (apart (one_object (0 + t) R) (one_object (0 + q + t) W) (below_apart (0 + t) (0 + q + t) (omega (arith, lt)))))
      (λ t lt. copy_child (0 + t) (0 + q + t) (width _ (omega (arith, lt))) (width _ (omega (arith, lt))))

  back : (x : ℕ) → Passes (IsChild p) lost site (turn_at x) (suc (times q 2)) (times q 1) (times q 0) (stmt_of lost (copies 20 q (codes "E") (codes "D")))
  back x =
      copies_pass 20 (codes "E") (codes "D") (0 + q) 0 x (λ x t. refl) (λ x t. refl)
      (λ t lt. two_apart (one_object (0 + q + t) R) (one_object (0 + t) W) (apart (one_object (0 + q + t) R) (one_object (0 + t) W) (above_apart (0 + q + t) (0 + t) (omega (arith, lt)))))
      (λ t lt. copy_child (0 + q + t) (0 + t) (width _ (omega (arith, lt))) (width _ (omega (arith, lt))))

  -- ---- products

  fits_there : (x : ℕ) → TilesFit p lost (turn_at x) size (codes "k_minplus") (codes "D") (codes "D") (codes "E") (Cw Min)
  fits_there x = record {
    few = omega (arith, few);
    number = DEFINITIONS + 2;
    first_a = 0;
    first_b = 0;
    first_c = 0 + q;
    i = λ x y z. refl;
    j = λ x y z. refl;
    k = λ x y z. refl;
    a_is = λ x y z. refl;
    b_is = λ x y z. refl;
    c_is = λ x y z. refl;
    target = refl;
    apart = λ u v w lu lv lw. read_below (0 + u) (0 + v) (0 + q + w) (Cw Min) (omega (arith, lu)) (omega (arith, lv));
    child = λ u v w lu lv lw. minplus_child p (0 + u) (0 + v) (0 + q + w) (width (0 + u) (omega (arith, lu))) (width (0 + v) (omega (arith, lv)))
        (width (0 + q + w) (omega (arith, lw)));
    room = (refl, λ x. refl, λ x y. refl);
    taken = (λ x. refl, λ x y. refl, λ x y z. refl);
  }

  fits_back : (x : ℕ) → TilesFit p lost (turn_at x) size (codes "k_minplus") (codes "E") (codes "E") (codes "D") (Cw Min)
  fits_back x = record {
    few = omega (arith, few);
    number = DEFINITIONS + 2;
    first_a = 0 + q;
    first_b = 0 + q;
    first_c = 0;
    i = λ x y z. refl;
    j = λ x y z. refl;
    k = λ x y z. refl;
    a_is = λ x y z. refl;
    b_is = λ x y z. refl;
    c_is = λ x y z. refl;
    target = refl;
    apart = λ u v w lu lv lw. read_above (0 + q + u) (0 + q + v) (0 + w) (Cw Min) (omega (arith, lw)) (omega (arith, lw));
    child = λ u v w lu lv lw. minplus_child p (0 + q + u) (0 + q + v) (0 + w) (width (0 + q + u) (omega (arith, lu)))
        (width (0 + q + v) (omega (arith, lv))) (width (0 + w) (omega (arith, lw)));
    room = (refl, λ x. refl, λ x y. refl);
    taken = (λ x. refl, λ x y. refl, λ x y z. refl);
  }

  round_passes : (x : ℕ) → Passes (IsChild p) lost site (turn_at x)
      (suc (times q 2) + (steps_of_tiles p lost size + (suc (times q 2) + steps_of_tiles p lost size)))
      (times q 1 + (times size (times size (times size 1)) + (times q 1 + times size (times size (times size 1)))))
      (times q 0 + (times size (times size (times size 0)) + (times q 0 + times size (times size (times size 0)))))
      (block (map (stmt_of lost) (round size)))
  round_passes x =
      let first = tiles_pass p lost 13 (turn_at x) size (codes "k_minplus") (codes "D") (codes "D") (codes "E") (Cw Min) (fits_there x) in
      let second = tiles_pass p lost 23 (turn_at x) size (codes "k_minplus") (codes "E") (codes "E") (codes "D") (Cw Min) (fits_back x) in
      let s2 = tiles 13 size (codes "k_minplus") (codes "D") (codes "D") (codes "E") in
      let s3 = copies 20 q (codes "E") (codes "D") in
      let s4 = tiles 23 size (codes "k_minplus") (codes "E") (codes "E") (codes "D") in
      passes_more (IsChild p) lost site (turn_at x) _ _ _ _ _ _ _ (map (stmt_of lost) (s2 ∷ s3 ∷ s4 ∷ [])) (there x)
      (passes_more (IsChild p) lost site (turn_at x) _ _ _ _ _ _ _ (map (stmt_of lost) (s3 ∷ s4 ∷ [])) first
      (passes_more (IsChild p) lost site (turn_at x) _ _ _ _ _ _ _ (map (stmt_of lost) (s4 ∷ [])) (back x)
      (passes_one (IsChild p) lost site (turn_at x) _ _ _ (stmt_of lost s4) second)))

-- ---- counts

at_most : (b : Bool) (m n most : ℕ) → m ≤ most → n ≤ most → (if b then m else n) ≤ most
at_most true m n most h k = h
at_most false m n most h k = k

first_taken : (b : Bool) (m n most : ℕ) → b ≡ true → m ≤ most → (if b then m else n) ≤ most
first_taken true m n most e h = h
first_taken false m n most e h = cc

pub four_at_most : (size : ℕ) → size ≤ 12 → rounds_of size ≤ 4
four_at_most size h =
    let enough : nat_le (16 * size) 256 ≡ true = grind (arith, nat_tests) in
    at_most (nat_le (16 * size) 4) 1 _ 4 (omega arith) (at_most (nat_le (16 * size) 16) 2 _ 4 (omega arith) (at_most (nat_le (16 * size) 64) 3 _ 4 (omega arith)
    (first_taken (nat_le (16 * size) 256) 4 (least_power 4 5 (16 * size)) 4 enough (omega arith))))

doubled : (r x : ℕ) → times r (x + x) ≡ times r x + times r x
doubled zero x = refl
doubled (suc r) x = omega (arith, doubled r x)

twice : (r x : ℕ) → times r (x + x) ≡ 2 * r * x
twice r x =
    let each : times r x ≡ r * x = times_is r x in
    let grouped : 2 * r * x ≡ 2 * (r * x) = mul_assoc 2 r x in
    omega (arith, doubled r x, each, grouped)

steps_at_most : (size : ℕ) → size ≤ 12 → steps_of_tiles (walks_program size) lost size ≤ 3769
steps_at_most size h =
    let one = times size 2 in
    let inner : one ≤ 24 = times_le size 12 2 2 h (omega arith) in
    let two = times size (suc (suc one)) in
    let middle : two ≤ 312 = times_le size 12 (suc (suc one)) 26 h (omega (arith, inner)) in
    let outer : times size (suc (suc two)) ≤ 3768 = times_le size 12 (suc (suc two)) 314 h (omega (arith, middle)) in
    omega (arith, outer)

pub walks_completes : KindCompletes Walks
walks_completes size h input =
    let p = walks_program size in
    let q = size * size in
    let r = rounds_of size in
    let few : size ≤ 12 = h.1 in
    let square : q ≤ 144 = mul-le size size 12 12 few few in
    let cubic : q * size ≤ 1728 = mul-le q size 144 12 square few in
    let some : r ≤ 4 = four_at_most size few in
    let tiles_are : times size (times size (times size 1)) ≡ q * size = cube size in
    let copies_are : times q 1 ≡ q = times_is q 1 ∙ mul-one q in
    let no_tiles : times size (times size (times size 0)) ≡ 0 = no_cube size in
    let no_copies : times q 0 ≡ 0 = times_none q in
    let tile_steps : steps_of_tiles p lost size ≤ 3769 = steps_at_most size few in
    let copy_steps : times q 2 ≡ q * 2 = times_is q 2 in
    let c = suc (times q 2) + (steps_of_tiles p lost size + (suc (times q 2) + steps_of_tiles p lost size)) in
    let t = times q 1 + (times size (times size (times size 1)) + (times q 1 + times size (times size (times size 1)))) in
    let i = times q 0 + (times size (times size (times size 0)) + (times q 0 + times size (times size (times size 0)))) in
    let t_is : t ≡ (q + q * size) + (q + q * size) = omega (arith, tiles_are, copies_are) in
    let i_is : i ≡ 0 = omega (arith, no_tiles, no_copies) in
    let c_most : c ≤ 8116 = omega (arith, tile_steps, copy_steps, square) in
    let most : times r (suc c) ≤ 32468 = times_le r 4 (suc c) 8117 some (omega (arith, c_most)) in
    let total : times r t ≡ 2 * r * (q + q * size) = ap (times r) t_is ∙ twice r (q + q * size) in
    let never : times r i ≡ 0 = ap (times r) i_is ∙ times_none r in
    let limit : times r t ≤ 14976 = times_le r 4 t 3744 some (omega (arith, t_is, square, cubic)) in
    let stmt = each (on 9) (codes "h") (Num 0) (Num r) (round size) in
    let turns : r - 0 ≡ r = omega arith in
    completes p (times r t) (times r i) (2 * r * (q + q * size) + 1) 0
    (main_quiet (IsChild p) p.families (copy ∷ []) 8 (stmt ∷ []) 32 (suc (times r (suc c))) (times r t) (times r i)
    (passes_one (IsChild p) lost (site_of p true 0) [] (suc (times r (suc c))) (times r t) (times r i) (stmt_of lost stmt)
    (subst (λ (n : ℕ). Passes (IsChild p) lost (site_of p true 0) [] (suc (times n (suc c))) (times n t) (times n i) (stmt_of lost stmt)) turns
    (passes_each (IsChild p) lost (site_of p true 0) (on 9) (codes "h") (Num 0) (Num r) (round size) [] 0 r c t i (value_num lost 0 _) (value_num lost r _) refl (λ v. refl)
    (λ x low high. round_passes size few x)))) (omega (arith, most)))
    (omega (arith, total)) (sym never) (omega (arith, limit, total)) (omega arith) input
