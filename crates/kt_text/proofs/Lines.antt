-- Bytes without a line feed stand on one line.
use Rattle.std.proofs.Common.{◌≡◌, ℕ, suc, ◌+◌, ◌≤◌, Bool, true, false, not, ◌&&◌, cond, List, [], ◌∷◌, ◌++◌, length, take, drop, refl, ap, sym, ◌∙◌, arith, append_assoc, length-take}
use Rattle.std.specs.List.{list_all, prefix_len}
use Rattle.std.proofs.Math.Seq.{take-add}
use Rattle.std.proofs.lemmas.List.{append-nil, length-drop}
use Rattle.std.proofs.lemmas.Bool.Decides.{nat_tests}
use Rattle.kt_law.specs.declared.places.Place.{Place}
use Rattle.kt_text.specs.Bytes.{is_line_feed}
use Rattle.kt_text.specs.Gaps.{IsOneLine}
use Rattle.kt_text.specs.Places.{place_after, place_behind, place_of}
use Rattle.kt_text.proofs.PlaceSteps.{place_after-more}

pub no_line_feed : (q : ℕ → Bool) (b : ℕ) → q b ≡ true → q 10 ≡ false → is_line_feed b ≡ false
no_line_feed q b h e = grind (arith, nat_tests)

pub one_line-more : (b : ℕ) (bytes : List ℕ) → is_line_feed b ≡ false → IsOneLine bytes → IsOneLine (b ∷ bytes)
one_line-more b bytes other line = rw other line

one_line-step : (q : ℕ → Bool) (b : ℕ) (bytes : List ℕ) (k : ℕ) (v : Bool) → q b ≡ v → q 10 ≡ false → IsOneLine (take k bytes) → IsOneLine (take (cond v (1 + k) 0) (b ∷ bytes))
one_line-step q b bytes k true h e line = let s : 1 + k ≡ suc k = omega arith in rw s (one_line-more b (take k bytes) (no_line_feed q b h e) line)
one_line-step q b bytes k false h e line = refl

-- bytes of a kind that has no line feed
pub one_line-prefix : (q : ℕ → Bool) → q 10 ≡ false → (text : List ℕ) → IsOneLine (take (prefix_len q text) text)
one_line-prefix q e [] = refl
one_line-prefix q e (b ∷ bytes) = one_line-step q b bytes (prefix_len q bytes) (q b) refl e (one_line-prefix q e bytes)

record Splits (b : ℕ) (bytes : List ℕ) : Type 0 where
  first : is_line_feed b ≡ false
  rest : IsOneLine bytes

splits : (v w : Bool) (b : ℕ) (bytes : List ℕ) → is_line_feed b ≡ v → list_all (λ b. not (is_line_feed b)) bytes ≡ w → (not v && w) ≡ true → Splits b bytes
splits true w b bytes e f h = cc
splits false true b bytes e f h = record { first = e; rest = f }
splits false false b bytes e f h = cc

same_place : (p : Place) → p ≡ record { line = p.line; column = p.column + 0 }
same_place p = let e : p.column + 0 ≡ p.column = omega arith in rw e refl

behind_other : (p : Place) (b : ℕ) → is_line_feed b ≡ false → place_behind p b ≡ record { line = p.line; column = p.column + 1 }
behind_other p b e = rw e refl

moved_on : (p q : Place) (n : ℕ) → q ≡ record { line = p.line; column = p.column + 1 } → record { line = q.line; column = q.column + n } ≡ (let r : Place = record { line = p.line; column = p.column + suc n } in r)
moved_on p q n e = let s : p.column + suc n ≡ p.column + 1 + n = omega arith in rw (e, s) refl

place_after-line : (bytes before : List ℕ) → IsOneLine bytes →
    place_after (before ++ bytes) ≡ record { line = (place_after before).line; column = (place_after before).column + length bytes }
place_after-line [] before line = rw append-nil (same_place (place_after before))
place_after-line (b ∷ bytes) before line =
    let s : Splits b bytes = splits (is_line_feed b) (list_all (λ b. not (is_line_feed b)) bytes) b bytes refl refl line in
    ap place_after (sym (append_assoc before (b ∷ []) bytes)) ∙ place_after-line bytes (before ++ b ∷ []) s.rest
    ∙ moved_on (place_after before) (place_after (before ++ b ∷ [])) (length bytes) (place_after-more b before ∙ behind_other (place_after before) b s.first)

-- n bytes of a line are n columns
pub place_of-line : (text : List ℕ) (i n : ℕ) → i + n ≤ length text → IsOneLine (take n (drop i text)) →
    place_of text (i + n) ≡ record { line = (place_of text i).line; column = (place_of text i).column + n }
place_of-line text i n h line =
    let all : length (take n (drop i text)) ≡ n = omega (arith, length-take n (drop i text), length-drop i text) in
    ap place_after (take-add i n text) ∙ place_after-line (take n (drop i text)) (take i text) line ∙ rw all refl
