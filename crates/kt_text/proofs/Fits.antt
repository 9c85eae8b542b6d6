-- A token lies within its text and on one line.
use Rattle.std.proofs.Common.{◌≡◌, ◌≢◌, ℕ, ◌+◌, ◌-◌, ◌<◌, ◌≤◌, ◌^◌, Bool, true, false, List, [], ◌∷◌, length, take, drop, get_or, refl, sym, subst, arith, Result, Ok, Err, IfOk, slice_index, nat_lt, nat_le}
use Rattle.std.specs.Char.{is_ascii_digit}
use Rattle.std.specs.List.{prefix_len}
use Rattle.std.proofs.lemmas.List.{length-drop, take_all}
use Rattle.std.proofs.lemmas.List.Sums.{prefix_len-le-length}
use Rattle.std.proofs.lemmas.Bool.Decides.{nat_tests}
use Rattle.kt_law.specs.declared.limits.TheConstants.{WORD_BYTES}
use Rattle.kt_law.specs.declared.places.Place.{Place}
use Rattle.kt_law.specs.declared.places.P.{P}
use Rattle.kt_law.specs.declared.places.P.TheVariants.{P2, P3}
use Rattle.kt_text.specs.declared.tokens.TokenKind.{TokenKind}
use Rattle.kt_text.specs.declared.tokens.TokenKind.TheVariants as T
use Rattle.kt_text.specs.Bytes.{is_letter, is_line_feed, is_pair, is_single, is_word_byte, value_of}
use Rattle.kt_text.specs.Places.{place_of}
use Rattle.kt_text.specs.Gaps.{IsOneLine, start_of}
use Rattle.kt_text.specs.Lexemes.{lexeme_of, number_of, sign_of, word_of}
use Rattle.kt_text.specs.Tokens.{next_token, token_at}
use Rattle.kt_text.specs.Laws.{IsBehind}
use Rattle.kt_text.specs.declared.tokens.Token.{Token}
use Rattle.kt_text.proofs.GapSteps.{start_of-within}
use Rattle.kt_text.proofs.Cases.{cases}
use Rattle.kt_text.proofs.Lines.{no_line_feed, one_line-more, one_line-prefix, place_of-line}

-- a token of this kind and length may stand at the front of the text
pub record Fits (text : List ℕ) (kind : TokenKind) (n : ℕ) : Type 0 where
  pub within : n ≤ length text
  pub line : IsOneLine (take n text)
  pub filled : kind ≢ T.End → 0 < n
  pub last : kind ≡ T.End → length text ≡ 0

pub record FitsIn (text : List ℕ) (found : Result (TokenKind × ℕ) P) : Type 0 where
  pub fits : IfOk found (λ token. Fits text token.0 token.1)

refused : (text : List ℕ) (code : P) → FitsIn text (Err code)
refused text code = record { fits = tt }

prefix_fits : (q : ℕ → Bool) (b : ℕ) (bs : List ℕ) (kind : TokenKind) → q 10 ≡ false → q b ≡ true → kind ≢ T.End → Fits (b ∷ bs) kind (prefix_len q (b ∷ bs))
prefix_fits q b bs kind e h other = record {
  within = prefix_len-le-length q (b ∷ bs);
  line = one_line-prefix q e (b ∷ bs);
  filled = λ _. rw h (omega arith);
  last = λ is. absurd (other is);
}

word_other : T.Word ≢ T.End
word_other e = cc

sign_other : T.Sign ≢ T.End
sign_other e = cc

number_other : (n : ℕ) → T.Number n ≢ T.End
number_other n e = cc

word_fits : (b : ℕ) (bs : List ℕ) → is_letter b ≡ true → FitsIn (b ∷ bs) (word_of (prefix_len is_word_byte (b ∷ bs)))
word_fits b bs h =
    let is_word : is_word_byte b ≡ true = rw h refl in
    cases (FitsIn (b ∷ bs)) (nat_lt WORD_BYTES (prefix_len is_word_byte (b ∷ bs))) (λ _. refused (b ∷ bs) P2)
    (λ _. record { fits = prefix_fits is_word_byte b bs T.Word refl is_word word_other })

number_fits : (b : ℕ) (bs : List ℕ) → is_ascii_digit b ≡ true → FitsIn (b ∷ bs) (number_of (b ∷ bs))
number_fits b bs h =
    let text : List ℕ = b ∷ bs in let n : ℕ = prefix_len is_ascii_digit (b ∷ bs) in
    cases (FitsIn (b ∷ bs)) (is_letter (slice_index text n)) (λ _. refused (b ∷ bs) P2)
    (λ _. cases (FitsIn (b ∷ bs)) (nat_le (2 ^ 64) (value_of (take n text))) (λ _. refused (b ∷ bs) P3)
    (λ _. record { fits = prefix_fits is_ascii_digit b bs (T.Number (value_of (take n text))) refl h (number_other (value_of (take n text))) }))

pair_first : (a b : ℕ) → is_pair a b ≡ true → is_line_feed a ≡ false
pair_first a b h = grind (arith, nat_tests)

pair_second : (a b : ℕ) → is_pair a b ≡ true → is_line_feed b ≡ false
pair_second a b h = grind (arith, nat_tests)

pair_two : (a : ℕ) → is_pair a 0 ≡ true → ⊥
pair_two a h = grind (arith, nat_tests)

pair_fits : (a : ℕ) (bs : List ℕ) → is_pair a (get_or bs 0 0) ≡ true → Fits (a ∷ bs) T.Sign 2
pair_fits a [] h = absurd (pair_two a h)
pair_fits a (b ∷ bs) h = record {
  within = omega arith;
  line = one_line-more a (b ∷ []) (pair_first a b h) (one_line-more b [] (pair_second a b h) refl);
  filled = λ _. omega arith;
  last = λ is. absurd (sign_other is);
}

single_fits : (a : ℕ) (bs : List ℕ) → is_single a ≡ true → Fits (a ∷ bs) T.Sign 1
single_fits a bs h = record {
  within = omega arith;
  line = one_line-more a [] (no_line_feed is_single a h refl) refl;
  filled = λ _. omega arith;
  last = λ is. absurd (sign_other is);
}

sign_fits : (a : ℕ) (bs : List ℕ) → FitsIn (a ∷ bs) (sign_of a (get_or bs 0 0))
sign_fits a bs = cases (FitsIn (a ∷ bs)) _ (λ h. record { fits = pair_fits a bs h })
    (λ _. cases (FitsIn (a ∷ bs)) _ (λ h. record { fits = single_fits a bs h })
    (λ _. cases (FitsIn (a ∷ bs)) _ (λ _. refused (a ∷ bs) _) (λ _. refused (a ∷ bs) _)))

lexeme_of-fits : (text : List ℕ) → FitsIn text (lexeme_of text)
lexeme_of-fits [] = record { fits = record { within = omega arith; line = refl; filled = λ other. absurd (other refl); last = λ _. refl } }
lexeme_of-fits (b ∷ bs) = cases (FitsIn (b ∷ bs)) (is_letter b) (λ h. word_fits b bs h)
    (λ _. cases (FitsIn (b ∷ bs)) (is_ascii_digit b) (λ h. number_fits b bs h) (λ _. sign_fits b bs))

fits_behind : (text : List ℕ) (at start n : ℕ) (kind : TokenKind) → at ≤ start → start ≤ length text → Fits (drop start text) kind n →
    IsBehind text at (record { kind = kind; place = place_of text start; start = start; stop = start + n })
fits_behind text at start n kind low high f = record {
  behind = low;
  ordered = omega arith;
  within = omega (arith, f.within, length-drop start text);
  placed = refl;
  filled = λ other. let some : 0 < n = f.filled other in omega arith;
  last = λ is. omega (arith, f.last is, length-drop start text);
}

found_behind : (text : List ℕ) (at start : ℕ) (found : Result (TokenKind × ℕ) P) (token : Token) →
    at ≤ start → start ≤ length text → FitsIn (drop start text) found → token_at text start found ≡ Ok token → IsBehind text at token
found_behind text at start (Ok (kind, n)) token low high f e =
    let same : record { kind = kind; place = place_of text start; start = start; stop = start + n } ≡ token = cc in
    subst (λ (t : Token). IsBehind text at t) same (fits_behind text at start n kind low high f.fits)
found_behind text at start (Err code) token low high f e = cc

pub next_token-behind : (text : List ℕ) (at : ℕ) (token : Token) → at ≤ length text → next_token text at ≡ Ok token → IsBehind text at token
next_token-behind text at token h e =
    found_behind text at (start_of text at) (lexeme_of (drop (start_of text at) text)) token
    (omega arith) (start_of-within text at h) (lexeme_of-fits (drop (start_of text at) text)) e

-- a token that stands at `start`, where the code sees the rest of the text as its last bytes
pub record Found (text : List ℕ) (start : ℕ) (kind : TokenKind) (n : ℕ) : Type 0 where
  pub fits : Fits (drop start text) kind n
  pub within : start + n ≤ length text
  pub place : place_of text (start + n) ≡ record { line = (place_of text start).line; column = (place_of text start).column + n }

pub found : (text : List ℕ) (start : ℕ) (kind : TokenKind) (n : ℕ) → start ≤ length text →
    lexeme_of (take (length text - start) (drop start text)) ≡ Ok (kind, n) → Found text start kind n
found text start kind n h e =
    let whole : take (length text - start) (drop start text) ≡ drop start text = take_all (length text - start) (drop start text) (omega (arith, length-drop start text)) in
    let is : lexeme_of (drop start text) ≡ Ok (kind, n) = rw whole at e in
    let f : FitsIn (drop start text) (Ok (kind, n)) = subst (λ r. FitsIn (drop start text) r) is (lexeme_of-fits (drop start text)) in
    let within : start + n ≤ length text = omega (arith, f.fits.within, length-drop start text) in
    record { fits = f.fits; within = within; place = place_of-line text start n within f.fits.line }

pub found_is_behind : (text : List ℕ) (at start : ℕ) (kind : TokenKind) (n : ℕ) (place : Place) →
    start ≡ start_of text at → place ≡ place_of text start → start ≤ length text → Found text start kind n →
    IsBehind text at (record { kind = kind; place = place; start = start; stop = start + n })
found_is_behind text at start kind n place from is h f =
    subst (λ (p : Place). IsBehind text at (record { kind = kind; place = p; start = start; stop = start + n })) (sym is)
    (fits_behind text at start n kind (omega arith) h f.fits)
