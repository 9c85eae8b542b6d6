-- A number rises from digit to digit.
use Rattle.std.proofs.Common.{◌≡◌, ℕ, suc, ◌+◌, ◌*◌, ◌-◌, ◌<◌, ◌≤◌, List, [], ◌∷◌, length, drop, get_or, refl, arith}
use Rattle.std.proofs.Math.Seq.{drop-cons}
use Rattle.std.specs.List.{fold}

-- the number that more digits write behind n
abbrev pub value_behind : ℕ → List ℕ → ℕ
value_behind n digits = fold (λ m d. m * 10 + (d - 48)) n digits

value_behind-rises : (n : ℕ) (digits : List ℕ) → n ≤ value_behind n digits
value_behind-rises n [] = omega arith
value_behind-rises n (d ∷ digits) = omega (arith, value_behind-rises (n * 10 + (d - 48)) digits)

pub value_behind-drop : (n : ℕ) (digits : List ℕ) (i : ℕ) → i < length digits → value_behind n (drop i digits) ≡ value_behind (n * 10 + (get_or digits i 0 - 48)) (drop (i + 1) digits)
value_behind-drop n digits i h = let s : i + 1 ≡ suc i = omega arith in rw (s, drop-cons digits i 0) refl

-- the whole number is at least what it is behind the next digit
pub at_least : (n : ℕ) (digits : List ℕ) (i : ℕ) → i < length digits → n * 10 + (get_or digits i 0 - 48) ≤ value_behind n (drop i digits)
at_least n digits i h = omega (arith, value_behind-drop n digits i h, value_behind-rises (n * 10 + (get_or digits i 0 - 48)) (drop (i + 1) digits))
