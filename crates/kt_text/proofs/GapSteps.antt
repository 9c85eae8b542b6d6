-- A gap goes line by line.
use Rattle.std.proofs.Common.{◌≡◌, ◌≢◌, ℕ, suc, ◌+◌, ◌-◌, ◌<◌, ◌≤◌, Bool, true, false, List, [], ◌∷◌, length, drop, take, get_or, refl, ap, sym, ◌∙◌, arith}
use Rattle.std.specs.List.{prefix_len}
use Rattle.std.proofs.Math.Seq.{drop-cons}
use Rattle.std.proofs.lemmas.List.{drop-drop, get_or-drop, get_or_past, length-drop, take_all}
use Rattle.std.proofs.lemmas.List.Sums.{prefix_len-le-length}
use Rattle.std.proofs.lemmas.Bool.Decides.{nat_tests}
use Rattle.kt_law.specs.declared.places.Place.{Place}
use Rattle.kt_text.specs.Bytes.{is_line_byte, is_line_feed, is_space}
use Rattle.kt_text.specs.Gaps.{IsOneLine, gap, goes_on, is_gap, start_of}
use Rattle.kt_text.specs.Places.{place_behind, place_of}
use Rattle.kt_text.proofs.Cases.{cases}
use Rattle.kt_text.proofs.Lines.{no_line_feed, one_line-more, one_line-prefix, place_of-line}
use Rattle.kt_text.proofs.PlaceSteps.{place_of-next, place_of-small}

gap-within : (c : Bool) (bytes : List ℕ) → gap c bytes ≤ length bytes
gap-within c [] = omega arith
gap-within c (b ∷ bytes) = cases (λ n. n ≤ suc (length bytes)) (is_gap c b) (λ _. omega (arith, gap-within (goes_on c b) bytes)) (λ _. omega arith)

pub start_of-within : (text : List ℕ) (at : ℕ) → at ≤ length text → start_of text at ≤ length text
start_of-within text at h = omega (arith, gap-within false (drop at text), length-drop at text)

-- the first n bytes are passed, and no comment is open behind them
abbrev pub Passes : Bool → ℕ → List ℕ → Type 0
Passes c n bytes = gap c bytes ≡ n + gap false (drop n bytes)

passes_none : (bytes : List ℕ) → Passes false 0 bytes
passes_none bytes = omega arith

passes_more : (c d : Bool) (b : ℕ) (bytes : List ℕ) (n : ℕ) → gap c (b ∷ bytes) ≡ gap d bytes + 1 → Passes d n bytes → Passes c (1 + n) (b ∷ bytes)
passes_more c d b bytes n e h =
    let s : 1 + n ≡ suc n = omega arith in
    let same : gap d bytes + 1 ≡ suc n + gap false (drop n bytes) = omega (arith, h) in
    rw s (e ∙ same)

space_is_passed : (b : ℕ) (bytes : List ℕ) → is_space b ≡ true → gap false (b ∷ bytes) ≡ gap false bytes + 1
space_is_passed b bytes e =
    let is : is_gap false b ≡ true = grind (arith, nat_tests) in
    let ends : goes_on false b ≡ false = grind (arith, nat_tests) in
    rw (is, ends) refl

body_is_passed : (b : ℕ) (bytes : List ℕ) → is_line_byte b ≡ true → gap true (b ∷ bytes) ≡ gap true bytes + 1
body_is_passed b bytes e = rw e refl

line_feed_ends : (b : ℕ) (bytes : List ℕ) → is_line_byte b ≡ false → Passes true 0 (b ∷ bytes)
line_feed_ends b bytes e = let same : b ≡ 10 = grind (arith, nat_tests) in rw same (omega arith)

-- what is left of a comment is passed at once
rest_passes : (bytes : List ℕ) → Passes true (prefix_len is_line_byte bytes) bytes
rest_passes [] = refl
rest_passes (b ∷ bytes) =
    cases (λ n. Passes true n (b ∷ bytes)) (is_line_byte b)
    (λ e. passes_more true true b bytes (prefix_len is_line_byte bytes) (body_is_passed b bytes e) (rest_passes bytes))
    (λ e. line_feed_ends b bytes e)

-- so is a comment
comment_passes : (bytes : List ℕ) → get_or bytes 0 0 ≡ 35 → Passes false (prefix_len is_line_byte bytes) bytes
comment_passes [] e = refl
comment_passes (b ∷ bytes) e = rw e (passes_more false true 35 bytes (prefix_len is_line_byte bytes) refl (rest_passes bytes))

no_gap : (bytes : List ℕ) → is_gap false (get_or bytes 0 0) ≡ false → gap false bytes ≡ 0
no_gap [] e = refl
no_gap (b ∷ bytes) e = rw e refl

-- where the code goes on behind n bytes of the gap at i
pub record Moves (text : List ℕ) (i n : ℕ) : Type 0 where
  pub inside : i + n ≤ length text
  pub place : place_of text (i + n) ≡ record { line = (place_of text i).line; column = (place_of text i).column + n }
  pub start : start_of text (i + n) ≡ start_of text i

moves_whole : (text : List ℕ) (i n : ℕ) → i ≤ length text → n ≤ length (drop i text) → IsOneLine (take n (drop i text)) → Passes false n (drop i text) → Moves text i n
moves_whole text i n h within line passed =
    let inside : i + n ≤ length text = omega (arith, length-drop i text) in
    let left : drop n (drop i text) ≡ drop (i + n) text = drop-drop n i text in
    let more : gap false (drop i text) ≡ n + gap false (drop (i + n) text) = rw (← left) passed in
    record { inside = inside; place = place_of-line text i n inside line; start = omega (arith, more) }

space_passes : (bytes : List ℕ) → is_space (get_or bytes 0 0) ≡ true → (IsOneLine (take 1 bytes)) × (Passes false 1 bytes)
space_passes [] e = cc
space_passes (b ∷ bytes) e =
    let other : is_line_feed b ≡ false = no_line_feed is_space b e refl in
    (one_line-more b [] other refl, passes_more false false b bytes 0 (space_is_passed b bytes e) (passes_none bytes))

within_text : (text : List ℕ) (i : ℕ) (p : ℕ → Bool) → p 0 ≡ false → p (get_or text i 0) ≡ true → i < length text
within_text text i p e h = grind (arith, get_or_past)

first : (text : List ℕ) (i : ℕ) → get_or (drop i text) 0 0 ≡ get_or text i 0
first text i = let same : i + 0 ≡ i = omega arith in rw (get_or-drop i text 0 0, same) refl

pub space_moves : (text : List ℕ) (i : ℕ) → is_space (get_or text i 0) ≡ true → Moves text i 1
space_moves text i e =
    let h : i < length text = within_text text i is_space refl e in
    let passes = space_passes (drop i text) (rw first e) in
    moves_whole text i 1 (omega arith) (omega (arith, length-drop i text)) passes.0 passes.1

-- the code sees the rest of the text as its last bytes
pub comment_moves : (text : List ℕ) (i k : ℕ) → i ≤ length text → get_or text i 0 ≡ 35 → k ≡ prefix_len is_line_byte (take (length text - i) (drop i text)) → Moves text i k
comment_moves text i k h e is =
    let whole : take (length text - i) (drop i text) ≡ drop i text = take_all (length text - i) (drop i text) (omega (arith, length-drop i text)) in
    let here : k ≡ prefix_len is_line_byte (drop i text) = rw whole at is in
    rw here (moves_whole text i (prefix_len is_line_byte (drop i text)) h (prefix_len-le-length is_line_byte (drop i text))
    (one_line-prefix is_line_byte refl (drop i text)) (comment_passes (drop i text) (rw first e)))

-- of the gap from `from` on the bytes before `at` are passed, and the line goes on from the place of `since`
pub record IsPassed (text : List ℕ) (from at since : ℕ) (base : Place) : Type 0 where
  pub inside : at ≤ length text
  pub behind : since ≤ at
  pub place : place_of text at ≡ record { line = base.line; column = base.column + (at - since) }
  pub start : start_of text at ≡ start_of text from

pub is_passed-none : (text : List ℕ) (from : ℕ) (place : Place) → from ≤ length text → place ≡ place_of text from → IsPassed text from from from place
is_passed-none text from place h e =
    let none : place.column + (from - from) ≡ place.column = omega arith in
    record { inside = h; behind = omega arith; place = rw none (sym e); start = refl }

moved_on : (p q : Place) (k n j : ℕ) → q ≡ record { line = p.line; column = p.column + k } → p.column + k + n ≡ p.column + j →
    record { line = q.line; column = q.column + n } ≡ (let r : Place = record { line = p.line; column = p.column + j } in r)
moved_on p q k n j e f = rw (e, f) refl

pub is_passed-more : (text : List ℕ) (from at since n : ℕ) (place : Place) → IsPassed text from at since place → Moves text at n → IsPassed text from (at + n) since place
is_passed-more text from at since n place p m =
    let far : place.column + (at - since) + n ≡ place.column + (at + n - since) = omega (arith, p.behind) in
    record {
      inside = m.inside;
      behind = omega (arith, p.behind);
      place = m.place ∙ moved_on place (place_of text at) (at - since) n (at + n - since) p.place far;
      start = m.start ∙ p.start;
    }

pub is_passed-line : (text : List ℕ) (from at since : ℕ) (place : Place) → IsPassed text from at since place → get_or text at 0 ≡ 10 →
    IsPassed text from (at + 1) (at + 1) (record { line = place.line + 1; column = 1 })
is_passed-line text from at since place p e =
    let h : at < length text = within_text text at is_line_feed refl (rw e refl) in
    let s : at + 1 ≡ suc at = omega arith in
    let here : gap false (drop at text) ≡ gap false (drop (at + 1) text) + 1 = rw (s, drop-cons text at 0, e) refl in
    let none : 1 + (at + 1 - (at + 1)) ≡ 1 = omega arith in
    record {
      inside = omega arith;
      behind = omega arith;
      place = place_of-next text at h ∙ ap (λ (q : Place). place_behind q (get_or text at 0)) p.place ∙ rw (e, none) refl;
      start = omega (arith, here, p.start);
    }

other_byte : (b : ℕ) → is_space b ≡ false → b ≢ 35 → b ≢ 10 → is_gap false b ≡ false
other_byte b e f g = grind (arith, nat_tests)

pub is_passed-all : (text : List ℕ) (from at since : ℕ) (place : Place) → IsPassed text from at since place →
    is_space (get_or text at 0) ≡ false → get_or text at 0 ≢ 35 → get_or text at 0 ≢ 10 → at ≡ start_of text from
is_passed-all text from at since place p e f g =
    omega (arith, p.start, no_gap (drop at text) (rw first (other_byte (get_or text at 0) e f g)))

pub is_passed-small : (text : List ℕ) (from at since : ℕ) (place : Place) → IsPassed text from at since place → place.column + (at - since) ≤ at + 1
is_passed-small text from at since place p =
    let small = place_of-small text at in
    let column : (place_of text at).column ≡ place.column + (at - since) = ap (λ (q : Place). q.column) p.place in
    omega (arith, column, small.column)
