-- How many rounds the walks need.
use Rattle.std.proofs.Common.{◌≡◌, ◌≤◌, Bool, true, false, ℕ, zero, suc, ◌+◌, ◌*◌, ◌^◌, nat_le, refl, arith}
use Rattle.std.specs.Prelude.{if◌then◌else◌}
use Rattle.std.proofs.lemmas.Bool.Decides.{nat_tests}
use Rattle.kt_gen.specs.Texts.{least_power, rounds_of}

pub two_rounds : (size : ℕ) → 1 ≤ size → size ≤ 1 → 2 ≡ rounds_of size
two_rounds size low high =
    let a : nat_le (16 * size) 4 ≡ false = grind (arith, nat_tests) in
    let b : nat_le (16 * size) 16 ≡ true = grind (arith, nat_tests) in
    rw (a, b) refl

pub three_rounds : (size : ℕ) → 2 ≤ size → size ≤ 4 → 3 ≡ rounds_of size
three_rounds size low high =
    let a : nat_le (16 * size) 4 ≡ false = grind (arith, nat_tests) in
    let b : nat_le (16 * size) 16 ≡ false = grind (arith, nat_tests) in
    let c : nat_le (16 * size) 64 ≡ true = grind (arith, nat_tests) in
    rw (a, b, c) refl

pub four_rounds : (size : ℕ) → 5 ≤ size → size ≤ 12 → 4 ≡ rounds_of size
four_rounds size low high =
    let a : nat_le (16 * size) 4 ≡ false = grind (arith, nat_tests) in
    let b : nat_le (16 * size) 16 ≡ false = grind (arith, nat_tests) in
    let c : nat_le (16 * size) 64 ≡ false = grind (arith, nat_tests) in
    let d : nat_le (16 * size) 256 ≡ true = grind (arith, nat_tests) in
    rw (a, b, c, d) refl

one_of : (b : Bool) (m n most : ℕ) → m ≤ most → n ≤ most → (if b then m else n) ≤ most
one_of true m n most h k = h
one_of false m n most h k = k

few_powers : (more from much : ℕ) → least_power more from much ≤ from + more
few_powers zero from much = omega arith
few_powers (suc more) from much =
    one_of (nat_le much (4 ^ from)) from (least_power more (suc from) much) (from + suc more) (omega arith) (omega (arith, few_powers more (suc from) much))

pub few_rounds : (size : ℕ) → rounds_of size ≤ 9
few_rounds size = few_powers 8 1 (16 * size)
