-- The generated product of matrices completes.
use Rattle.std.proofs.Common.{◌≡◌, ◌<◌, ◌≤◌, ℕ, suc, ◌+◌, ◌*◌, [], ◌∷◌, false, codes, refl, sym, ap, ◌∙◌, arith}
use Rattle.std.proofs.Math.Nat.{mul_comm, mul-one}
use Rattle.kt_law.specs.Accesses.{clash_of, clashes}
use Rattle.kt_law.specs.Acts.{Fold}
use Rattle.kt_law.specs.PlainKernels.{mul_of, minplus_of}
use Rattle.kt_law.specs.declared.accesses.Access.{Access}
use Rattle.kt_law.specs.declared.limits.TheConstants.{DEFINITIONS, STEPS}
use Rattle.kt_law.specs.declared.modes.Mode.{Mode}
use Rattle.kt_law.specs.declared.modes.Mode.TheVariants.{R, Cw}
use Rattle.kt_law.specs.declared.operators.Op.TheVariants.{Add, Min}
use Rattle.kt_prog.specs.Calls.{Whole}
use Rattle.kt_prog.specs.Objects.{width_of}
use Rattle.kt_prog.specs.Statements.{stmt_of}
use Rattle.kt_prog.specs.declared.programs.Program.{Program}
use Rattle.kt_text.specs.declared.commands.Kind.TheVariants.{Mul}
use Rattle.kt_gen_runs.specs.Completes.{KindCompletes}
use Rattle.kt_gen.specs.Trees.{mul_program, tiles}
use Rattle.kt_gen_runs.proofs.Runs.{IsChild, IsLeaf, completes}
use Rattle.kt_gen_runs.proofs.Passing.{passes_one, times}
use Rattle.kt_gen_runs.proofs.Kernels.{call_quiet, product_calm}
use Rattle.kt_gen_runs.proofs.Forking.{above_apart, agreed, apart, below_apart, main_quiet, one_object, times_is, times_le, times_none, wide}
use Rattle.kt_gen_runs.proofs.Tiles.{TilesFit, steps_of_tiles, tile_call, tiles_pass}

pub three_apart : (a b c : Access) → clash_of a b ≡ false → clash_of a c ≡ false → clash_of b c ≡ false → clashes (a ∷ b ∷ c ∷ []) ≡ false
three_apart a b c e f g = rw (e, f, g) refl

-- two objects that are read and a third that is written
pub read_below : (u v w : ℕ) (last : Mode) → u < w → v < w → clashes (tile_call 0 last u v w).accesses ≡ false
read_below u v w last h g =
    three_apart (one_object u R) (one_object v R) (one_object w last) (agreed (one_object u R) (one_object v R) refl)
    (apart (one_object u R) (one_object w last) (below_apart u w h)) (apart (one_object v R) (one_object w last) (below_apart v w g))

pub read_above : (u v w : ℕ) (last : Mode) → w < u → w < v → clashes (tile_call 0 last u v w).accesses ≡ false
read_above u v w last h g =
    three_apart (one_object u R) (one_object v R) (one_object w last) (agreed (one_object u R) (one_object v R) refl)
    (apart (one_object u R) (one_object w last) (above_apart u w h)) (apart (one_object v R) (one_object w last) (above_apart v w g))

pub mul_child : (p : Program) (u v w : ℕ) → width_of p.families u ≡ 256 → width_of p.families v ≡ 256 → width_of p.families w ≡ 256
    → IsChild p (Whole (tile_call (DEFINITIONS + 1) (Cw Add) u v w))
mul_child p u v w hu hv hw =
    call_quiet (IsLeaf p) p (tile_call (DEFINITIONS + 1) (Cw Add) u v w)
    (product_calm (IsLeaf p) (width_of p.families) mul_of (Fold Add) 16 16 16 u v w (rw (hu, hv, hw) refl))

pub minplus_child : (p : Program) (u v w : ℕ) → width_of p.families u ≡ 256 → width_of p.families v ≡ 256 → width_of p.families w ≡ 256
    → IsChild p (Whole (tile_call (DEFINITIONS + 2) (Cw Min) u v w))
minplus_child p u v w hu hv hw =
    call_quiet (IsLeaf p) p (tile_call (DEFINITIONS + 2) (Cw Min) u v w)
    (product_calm (IsLeaf p) (width_of p.families) minplus_of (Fold Min) 16 16 16 u v w (rw (hu, hv, hw) refl))

mul_fits : (size : ℕ) → size ≤ 25 → TilesFit (mul_program size) (λ w. w) [] size (codes "k_mul") (codes "A") (codes "B") (codes "C") (Cw Add)
mul_fits size few =
    let p = mul_program size in
    let q = size * size in
    let width : (o : ℕ) → o < q + (q + (q + 0)) → width_of p.families o ≡ 256 = λ o lt. wide 256 p.families o (refl, (refl, (refl, tt))) lt in
    record {
      few = few;
      number = DEFINITIONS + 1;
      first_a = 0;
      first_b = 0 + q;
      first_c = 0 + q + q;
      i = λ x y z. refl;
      j = λ x y z. refl;
      k = λ x y z. refl;
      a_is = λ x y z. refl;
      b_is = λ x y z. refl;
      c_is = λ x y z. refl;
      target = refl;
      apart = λ u v w lu lv lw. read_below (0 + u) (0 + q + v) (0 + q + q + w) (Cw Add) (omega (arith, lu)) (omega (arith, lv));
      child = λ u v w lu lv lw. mul_child p (0 + u) (0 + q + v) (0 + q + q + w) (width (0 + u) (omega (arith, lu)))
          (width (0 + q + v) (omega (arith, lv))) (width (0 + q + q + w) (omega (arith, lw)));
      room = (refl, λ x. refl, λ x y. refl);
      taken = (λ x. refl, λ x y. refl, λ x y z. refl);
    }

pub square : (size : ℕ) → times size (times size 1) ≡ size * size
square size = ap (times size) (times_is size 1 ∙ mul-one size) ∙ times_is size size

pub cube : (size : ℕ) → times size (times size (times size 1)) ≡ size * size * size
cube size = ap (times size) (square size) ∙ (times_is size (size * size) ∙ mul_comm size (size * size))

pub no_cube : (size : ℕ) → times size (times size (times size 0)) ≡ 0
no_cube size = ap (λ (k : ℕ). times size (times size k)) (times_none size) ∙ (ap (times size) (times_none size) ∙ times_none size)

pub steps_le : (size most : ℕ) → size ≤ most → times size (times size (times size 1)) ≤ times most (times most (times most 1))
steps_le size most h = times_le size most _ _ h (times_le size most _ _ h (times_le size most 1 1 h (omega arith)))

mul_steps : (size : ℕ) → size ≤ 25 → steps_of_tiles (mul_program size) (λ w. w) size ≤ STEPS
mul_steps size h =
    let one = times size 2 in
    let inner : one ≤ 50 = times_le size 25 2 2 h (omega arith) in
    let two = times size (suc (suc one)) in
    let middle : two ≤ 1300 = times_le size 25 (suc (suc one)) 52 h (omega (arith, inner)) in
    let outer : times size (suc (suc two)) ≤ 32550 = times_le size 25 (suc (suc two)) 1302 h (omega (arith, middle)) in
    omega (arith, outer)

pub mul_completes : KindCompletes Mul
mul_completes size h input =
    let p = mul_program size in
    let high : size ≤ 25 = h.1 in
    let stmt = tiles 5 size (codes "k_mul") (codes "A") (codes "B") (codes "C") in
    let t = times size (times size (times size 1)) in
    let i = times size (times size (times size 0)) in
    let passes = tiles_pass p (λ w. w) 5 [] size (codes "k_mul") (codes "A") (codes "B") (codes "C") (Cw Add) (mul_fits size high) in
    let most : t ≤ 15625 = steps_le size 25 high in
    let total = cube size in
    completes p t i (size * size * size + 1) 0
    (main_quiet (IsChild p) p.families [] 4 (stmt ∷ []) 13 (steps_of_tiles p (λ w. w) size) t i
    (passes_one (IsChild p) (λ w. w) _ [] _ t i (stmt_of (λ w. w) stmt) passes) (mul_steps size high))
    (omega (arith, total)) (sym (no_cube size)) (omega (arith, most, total)) (omega arith) input
