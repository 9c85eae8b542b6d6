-- Places go byte by byte.
use Rattle.std.proofs.Common.{◌≡◌, ℕ, suc, ◌+◌, ◌<◌, ◌≤◌, Bool, true, false, not, cond, List, [], ◌∷◌, ◌++◌, length, take, get_or, refl, arith, length-take}
use Rattle.std.specs.List.{count_by, prefix_len}
use Rattle.std.proofs.Math.Seq.{take-suc}
use Rattle.std.proofs.lemmas.List.{reverse-append, length-reverse}
use Rattle.std.proofs.lemmas.List.Sums.{count_by-le-length, prefix_len-le-length, sum_by-append}
use Rattle.std.specs.Prelude.{reverse}
use Rattle.kt_law.specs.declared.places.Place.{Place}
use Rattle.kt_text.specs.Bytes.{is_line_feed}
use Rattle.kt_text.specs.Places.{place_after, place_behind, place_of}

count_more : (p : ℕ → Bool) (b : ℕ) (bytes : List ℕ) → count_by p (bytes ++ b ∷ []) ≡ count_by p bytes + cond (p b) 1 0
count_more p b bytes = omega (arith, sum_by-append (λ x. cond (p x) 1 0) bytes (b ∷ []))

abbrev at : ℕ → ℕ → Place
at line column = record { line = line; column = column }

place_step : (v : Bool) (lines bytes : ℕ) →
    at (1 + (lines + cond v 1 0)) (1 + cond (not v) (1 + bytes) 0) ≡ cond v (at (1 + lines + 1) 1) (at (1 + lines) (1 + bytes + 1))
place_step true lines bytes = let e : 1 + (lines + 1) ≡ 1 + lines + 1 = omega arith in rw e refl
place_step false lines bytes = let e : 1 + (1 + bytes) ≡ 1 + bytes + 1 = omega arith in let f : lines + 0 ≡ lines = omega arith in rw (e, f) refl

pub place_after-more : (b : ℕ) (bytes : List ℕ) → place_after (bytes ++ b ∷ []) ≡ place_behind (place_after bytes) b
place_after-more b bytes =
    rw (reverse-append, count_more is_line_feed b bytes)
    (place_step (is_line_feed b) (count_by is_line_feed bytes) (prefix_len (λ c. not (is_line_feed c)) (reverse bytes)))

-- the place behind the byte at i
pub place_of-next : (text : List ℕ) (i : ℕ) → i < length text → place_of text (i + 1) ≡ place_behind (place_of text i) (get_or text i 0)
place_of-next text i h = let e : i + 1 ≡ suc i = omega arith in rw (e, take-suc text i 0) (place_after-more (get_or text i 0) (take i text))

-- a place is no larger than the number of bytes before it
pub record IsSmall (p : Place) (n : ℕ) : Type 0 where
  pub line : p.line ≤ n + 1
  pub column : p.column ≤ n + 1

pub place_of-small : (text : List ℕ) (i : ℕ) → IsSmall (place_of text i) i
place_of-small text i = record {
  line = omega (arith, count_by-le-length is_line_feed (take i text), length-take i text);
  column = omega (arith, prefix_len-le-length (λ b. not (is_line_feed b)) (reverse (take i text)), length-reverse (take i text), length-take i text);
}
