-- The equations of the kernels, at what their tests find.
use Rattle.std.proofs.Common.{◌≡◌, ◌≢◌, ◌≤◌, ◌<◌, ℕ, zero, suc, ◌+◌, ◌-◌, ◌*◌, ◌/◌, ◌%◌, true, false, ◌&&◌, List, [], ◌∷◌, length, get_or, refl, sym, ap, ◌∙◌, arith, sub-one, nat_le, nat_lt, slice_index}
use Rattle.std.proofs.lemmas.Bool.Decides.{nat_tests}
use Rattle.std.proofs.lemmas.List.FromFn.{length-map-range_with_len}
use Rattle.kt_law.specs.Acts.{Store}
use Rattle.kt_law.specs.PlainKernels.{sum_below, least_below, stencil_of}
use Rattle.kt_law.specs.Operators.{satadd_of}
use Rattle.kt_law.specs.declared.accesses.Access.{Access}
use Rattle.kt_law.specs.declared.faults.F.TheVariants.{F2}
use Rattle.kt_law.specs.declared.limits.TheConstants.{DEFINITIONS, LENGTH, WIDTH}
use Rattle.kt_order.specs.Body.{Stop}
use Rattle.kt_prog.specs.Bodies.{call_body, job_body, script_of, script_with}
use Rattle.kt_prog.specs.Calls.{CallTree, Whole}
use Rattle.kt_prog.specs.Kernels.{has, is_side, kernel_body, load_all, object_at, perform_all, smooth}
use Rattle.kt_prog.specs.Objects.{width_of}
use Rattle.kt_prog.specs.Operations.{end_of, is_loop_at}
use Rattle.kt_prog.specs.Script.{Step, ◌>>=◌, ◌>>◌, give, load, tested}
use Rattle.kt_prog.specs.declared.programs.Program.{Program}
use Rattle.kt_prog.specs.declared.runs.Operation.TheVariants as O
use Rattle.kt_prog.proofs.Lists.{both_hold}
use Rattle.kt_tiles.specs.Kernels.{fits_line, fits_product, fits_sum, line_given, line_in, line_loaded, made_by, product_given, product_in, product_loaded, sum_given, sum_in, sum_loaded}
use Rattle.kt_tiles.specs.declared.lines.Line.{Line}
use Rattle.kt_tiles.specs.declared.lines.Sum.{Sum}
use Rattle.kt_tiles.specs.declared.products.Product.{Product}
use Rattle.kt_tiles.specs.declared.products.Ring.{Ring}
use Rattle.kt_tiles.specs.declared.products.Ring.TheVariants as R

pub length_made : (ring : Ring) (n p q : ℕ) (xs ys : List ℕ) → length (made_by ring n p q xs ys) ≡ n * q
length_made R.Wrapping n p q xs ys =
    length-map-range_with_len (λ e. sum_below (λ k. slice_index xs (e / q * p + k) * slice_index ys (k * q + e % q)) p) 0 (n * q)
length_made R.Tropical n p q xs ys =
    length-map-range_with_len (λ e. least_below (λ k. satadd_of (slice_index xs (e / q * p + k)) (slice_index ys (k * q + e % q))) p) 0 (n * q)

pub object_there : (xs : List Access) (k : ℕ) (d : Access) → k < length xs → object_at xs k ≡ (get_or xs k d).lo
object_there [] k d h = absurd (omega (arith, h))
object_there (y ∷ xs) zero d h = refl
object_there (y ∷ xs) (suc k) d h = object_there xs k d (omega (arith, h))

pub object_missing : (xs : List Access) (k : ℕ) → length xs ≤ k → object_at xs k ≡ 0
object_missing [] k h = refl
object_missing (y ∷ xs) zero h = absurd (omega (arith, h))
object_missing (y ∷ xs) (suc k) h = object_missing xs k (omega (arith, h))

-- what a test that holds says of a product, where no object is wider than a tile
pub record Tiled (s : Product) : Type 0 where
  pub rows : s.n ≤ LENGTH
  pub depth : s.p ≤ LENGTH
  pub columns : s.q ≤ LENGTH
  pub a_few : s.n * s.p ≤ WIDTH
  pub b_few : s.p * s.q ≤ WIDTH
  pub c_few : s.n * s.q ≤ WIDTH

at_most : (a b : ℕ) → nat_le a b ≡ true → a ≤ b
at_most a b h = grind (arith, nat_tests)

below : (a b : ℕ) → nat_lt a b ≡ true → a < b
below a b h = grind (arith, nat_tests)

module _ (widths : ℕ → ℕ) (narrow : (o : ℕ) → widths o ≤ WIDTH) where
  in_tile : (o n : ℕ) → has widths o n ≡ true → n ≤ WIDTH
  in_tile o n h = let le = at_most n (widths o) h in let few = narrow o in omega (arith, le, few)

  pub product_tiled : (s : Product) → fits_product widths s ≡ true → Tiled s
  product_tiled s h =
      let n = is_side s.n in
      let p = is_side s.p in
      let q = is_side s.q in
      let a = has widths s.a (s.n * s.p) in
      let b = has widths s.b (s.p * s.q) in
      let c = has widths s.c (s.n * s.q) in
      let h5 = both_hold (n && p && q && a && b) c h in
      let h4 = both_hold (n && p && q && a) b h5.0 in
      let h3 = both_hold (n && p && q) a h4.0 in
      let h2 = both_hold (n && p) q h3.0 in
      let h1 = both_hold n p h2.0 in
      record {
        rows = at_most s.n LENGTH h1.0;
        depth = at_most s.p LENGTH h1.1;
        columns = at_most s.q LENGTH h2.1;
        a_few = in_tile s.a (s.n * s.p) h3.1;
        b_few = in_tile s.b (s.p * s.q) h4.1;
        c_few = in_tile s.c (s.n * s.q) h5.1;
      }

  pub line_tiled : (s : Line) → fits_line widths s ≡ true → s.n ≤ WIDTH
  line_tiled s h =
      let n = is_side s.n in
      let l = has widths s.left s.n in
      let r = has widths s.row s.n in
      let t = has widths s.right s.n in
      let o = has widths s.out s.n in
      in_tile s.out s.n (both_hold (n && l && r && t) o h).1

  pub sum_tiled : (s : Sum) → fits_sum widths s ≡ true → (s.n ≤ WIDTH) × (s.first ≤ WIDTH)
  sum_tiled s h =
      let n = is_side s.n in
      let r = has widths s.row s.n in
      let f = nat_lt s.first (widths s.start) in
      let h1 = both_hold (n && r) f h in
      let lt = below s.first (widths s.start) h1.1 in
      let few = narrow s.start in
      (in_tile s.row s.n (both_hold n r h1.0).1, omega (arith, lt, few))

module _ (widths : ℕ → ℕ) where
  pub product_is : (ring : Ring) (s : Product) → product_in widths ring s ≡ (tested (fits_product widths s) F2 0 >> product_loaded ring s)
  product_is ring s = refl

  pub smooth_some : (n l a r b : ℕ) → n ≢ 0 → smooth widths n l a r b ≡ (do
    left ← load l (n - 1)
    row ← load_all a 0 n
    right ← load r 0
    perform_all Store b 0 (stencil_of left row right))
  smooth_some zero l a r b some = absurd (some refl)
  smooth_some (suc n) l a r b some = rw sub-one refl

  pub smooth_none : (n l a r b : ℕ) → n ≡ 0 → smooth widths n l a r b ≡ give tt
  smooth_none zero l a r b e = refl
  smooth_none (suc n) l a r b e = cc

  pub line_is : (s : Line) → line_in widths s ≡ (tested (fits_line widths s) F2 0 >> smooth widths s.n s.left s.row s.right s.out)
  line_is s = refl

  pub sum_is : (s : Sum) → sum_in widths s ≡ (tested (fits_sum widths s) F2 0 >> sum_loaded s)
  sum_is s = refl

  module _ (ints : List ℕ) (accesses : List Access) where
    pub body_mul : (k : ℕ) → k ≡ 0 → kernel_body widths k ints accesses ≡ product_in widths R.Wrapping (product_given ints accesses)
    body_mul k e = rw e refl

    pub body_minplus : (k : ℕ) → k ≡ 1 → kernel_body widths k ints accesses ≡ product_in widths R.Tropical (product_given ints accesses)
    body_minplus k e = rw e refl

    pub body_stencil : (k : ℕ) → k ≡ 2 → kernel_body widths k ints accesses ≡ line_in widths (line_given ints accesses)
    body_stencil k e = rw e refl

    pub body_scan : (k : ℕ) → k ≢ 0 → k ≢ 1 → k ≢ 2 → kernel_body widths k ints accesses ≡ sum_in widths (sum_given ints accesses)
    body_scan zero a b c = absurd (a refl)
    body_scan (suc zero) a b c = absurd (b refl)
    body_scan (suc (suc zero)) a b c = absurd (c refl)
    body_scan (suc (suc (suc k))) a b c = refl

module _ (p : Program) (call : CallTree) where
  kernel_number : (n k : ℕ) → DEFINITIONS < n → k ≡ n - DEFINITIONS - 1
      → call_body (λ w. w) p call n ≡ kernel_body (width_of p.families) k call.ints call.accesses
  kernel_number zero k h e = absurd (omega (arith, h))
  kernel_number (suc n) k h e =
      let not : nat_lt n DEFINITIONS ≡ false = grind (arith, nat_tests, h) in
      let same : n - DEFINITIONS ≡ k = omega (arith, e) in
      rw (not, same) refl

  pub kernel_call : (n k : ℕ) → n ≡ call.task → DEFINITIONS < call.task → k ≡ n - DEFINITIONS - 1
      → call_body (λ w. w) p call call.task ≡ kernel_body (width_of p.families) k call.ints call.accesses
  kernel_call n k e h is = kernel_number call.task k h (rw (← e) is)

  no_loop : (n : ℕ) → DEFINITIONS < n → is_loop_at p n ≡ false
  no_loop zero h = refl
  no_loop (suc n) h = let not : nat_lt n DEFINITIONS ≡ false = grind (arith, nat_tests, h) in rw not refl

  pub kernel_end : DEFINITIONS < call.task → end_of p (Whole call) ≡ O.End ∷ []
  kernel_end h = rw (no_loop call.task h) refl
