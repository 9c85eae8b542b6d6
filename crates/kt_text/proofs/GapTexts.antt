-- A gap is blanks and comments.
use Rattle.std.proofs.Common.{◌≡◌, ℕ, suc, ◌+◌, ◌==◌, Bool, true, false, List, [], ◌∷◌, ◌++◌, drop, refl, sym, subst, arith}
use Rattle.std.proofs.lemmas.Bool.{eqb-true}
use Rattle.std.proofs.lemmas.List.{drop-drop}
use Rattle.std.specs.Str.{byte}
use Rattle.kt_text.specs.Bytes.{is_blank, is_line_feed}
use Rattle.kt_text.specs.Gaps.{IsOneLine, Skips, blank, comment, gap, last_comment, nothing, start_of}
use Rattle.kt_text.proofs.Lines.{one_line-more}

-- the text is the rest of a comment, blanks and comments, and then `rest`
data EndsComment : List ℕ → List ℕ → Type 0 where
  ends : (body text rest : List ℕ) → IsOneLine body → Skips text rest → EndsComment (body ++ 10 ∷ text) rest
  goes_on : (body : List ℕ) → IsOneLine body → EndsComment body []

opened : (text rest : List ℕ) → EndsComment text rest → Skips (byte "#" ∷ text) rest
opened _ _ (ends body text rest line more) = comment body text rest line more
opened _ _ (goes_on body line) = last_comment body line

ends_more : (b : ℕ) → is_line_feed b ≡ false → (text rest : List ℕ) → EndsComment text rest → EndsComment (b ∷ text) rest
ends_more b other _ _ (ends body text rest line more) = ends (b ∷ body) text rest (one_line-more b body other line) more
ends_more b other _ _ (goes_on body line) = goes_on (b ∷ body) (one_line-more b body other line)

drop-more : (b n : ℕ) (text : List ℕ) → drop (n + 1) (b ∷ text) ≡ drop n text
drop-more b n text = let s : n + 1 ≡ suc n = omega arith in rw s refl

-- what comes behind the gap, if the text stands in a comment or not
abbrev behind : Bool → List ℕ → List ℕ
behind in_comment text = drop (gap in_comment text) text

behind-blank : (b : ℕ) (text : List ℕ) → is_blank b ≡ true → (b == 35) ≡ false → behind false (b ∷ text) ≡ behind false text
behind-blank b text e other = rw (e, other) (drop-more b (gap false text) text)

behind-token : (b : ℕ) (text : List ℕ) → is_blank b ≡ false → (b == 35) ≡ false → behind false (b ∷ text) ≡ b ∷ text
behind-token b text e other = rw (e, other) refl

behind-line_feed : (text : List ℕ) → behind true (10 ∷ text) ≡ behind false text
behind-line_feed text = drop-more 10 (gap false text) text

behind-body : (b : ℕ) (text : List ℕ) → is_line_feed b ≡ false → behind true (b ∷ text) ≡ behind true text
behind-body b text other = rw other (drop-more b (gap true text) text)

record Gaps (text : List ℕ) : Type 0 where
  outside : Skips text (behind false text)
  inside : EndsComment text (behind true text)

begin : (b : ℕ) (text : List ℕ) → Gaps text → (v w : Bool) → (b == 35) ≡ v → is_blank b ≡ w → Skips (b ∷ text) (behind false (b ∷ text))
begin b text g true w hash e =
    let P : ℕ → Type 0 = λ c. Skips (c ∷ text) (behind false (c ∷ text)) in
    subst P (sym (eqb-true b 35 hash)) (subst (λ rest. Skips (byte "#" ∷ text) rest) (sym (drop-more 35 (gap true text) text)) (opened text (behind true text) g.inside))
begin b text g false true other e =
    subst (λ rest. Skips (b ∷ text) rest) (sym (behind-blank b text e other)) (blank b text (behind false text) e g.outside)
begin b text g false false other e =
    subst (λ rest. Skips (b ∷ text) rest) (sym (behind-token b text e other)) (nothing (b ∷ text) (rw (e, other) refl))

go_on : (b : ℕ) (text : List ℕ) → Gaps text → (v : Bool) → is_line_feed b ≡ v → EndsComment (b ∷ text) (behind true (b ∷ text))
go_on b text g true e =
    let P : ℕ → Type 0 = λ c. EndsComment (c ∷ text) (behind true (c ∷ text)) in
    subst P (sym (eqb-true b 10 e)) (subst (λ rest. EndsComment (10 ∷ text) rest) (sym (behind-line_feed text)) (ends [] text (behind false text) refl g.outside))
go_on b text g false e = subst (λ rest. EndsComment (b ∷ text) rest) (sym (behind-body b text e)) (ends_more b e text (behind true text) g.inside)

gaps : (text : List ℕ) → Gaps text
gaps [] = record { outside = nothing [] tt; inside = goes_on [] refl }
gaps (b ∷ text) = record { outside = begin b text (gaps text) (b == 35) (is_blank b) refl refl; inside = go_on b text (gaps text) (is_line_feed b) refl }

pub gaps_are_skipped : (text : List ℕ) (at : ℕ) → Skips (drop at text) (drop (start_of text at) text)
gaps_are_skipped text at =
    subst (λ rest. Skips (drop at text) rest) (drop-drop (gap false (drop at text)) at text) (gaps (drop at text)).outside
