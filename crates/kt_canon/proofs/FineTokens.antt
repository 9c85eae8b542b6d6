-- What the names and the numbers of lexed tokens are made of.
use Rattle.std.proofs.Common.{◌≡◌, ℕ, suc, ◌+◌, ◌-◌, ◌<◌, ◌≤◌, ◌^◌, Bool, true, false, List, [], ◌∷◌, take, drop, refl, arith, Option, Some, None, Result, Ok, Err, IfOk, slice_index, slice_range, nat_lt, nat_le}
use Rattle.std.specs.Prelude.{◌==◌, ◌||◌}
use Rattle.std.specs.Char.{is_ascii_digit}
use Rattle.std.specs.List.{list_all, prefix_len}
use Rattle.std.specs.Str.{byte}
use Rattle.std.proofs.lemmas.Bool.Decides.{nat_tests}
use Rattle.std.proofs.lemmas.List.Folds.{length-prefix_len}
use Rattle.kt_law.specs.declared.limits.TheConstants.{WORD_BYTES}
use Rattle.kt_law.specs.declared.places.P.{P}
use Rattle.kt_law.specs.declared.places.P.TheVariants.{P1, P2, P3}
use Rattle.kt_text.specs.declared.tokens.Token.{Token}
use Rattle.kt_text.specs.declared.tokens.TokenKind.{TokenKind}
use Rattle.kt_text.specs.declared.tokens.TokenKind.TheVariants as K
use Rattle.kt_text.specs.Bytes.{is_letter, is_pair, is_single, is_word_byte, value_of}
use Rattle.kt_text.specs.Gaps.{start_of}
use Rattle.kt_text.specs.Lexemes.{lexeme_of, number_of, sign_of, word_of}
use Rattle.kt_text.specs.Tokens.{Lexes, token_at}
use Rattle.kt_text.proofs.Cases.{cases}
use Rattle.kt_tokens.specs.declared.tokens.Mark.{Mark}
use Rattle.kt_tokens.specs.declared.tokens.Symbol.{Symbol}
use Rattle.kt_tokens.specs.declared.tokens.Symbol.TheVariants as S
use Rattle.kt_tokens.specs.declared.tokens.Tok.{Tok}
use Rattle.kt_tokens.specs.Words.{mark_in, mark_or, operators, punctuation, reserved, symbol_of, toks_of}
use Rattle.kt_canon.proofs.Spelled.{IsWordText}

-- a word that may be a name
pub record IsFreeWord (word : List ℕ) : Type 0 where
  pub text : IsWordText word
  pub free : mark_in reserved word ≡ None

abbrev pub IsFine : Symbol → Type 0
IsFine (S.Name name) = IsFreeWord name
IsFine (S.Number number) = number < 2 ^ 64
IsFine _ = Unit {0}

abbrev pub AreFine : List Tok → Type 0
AreFine [] = Unit {0}
AreFine (t ∷ ts) = IsFine t.symbol × AreFine ts

-- a token at the front is fine
record IsFineIn (text : List ℕ) (found : Result (TokenKind × ℕ) P) : Type 0 where
  is : IfOk found (λ token. IsFine (symbol_of token.0 (take token.1 text)))

refused : (text : List ℕ) (code : P) → IsFineIn text (Err code)
refused text code = record { is = tt }

passing_more : (p : ℕ → Bool) (x : ℕ) (xs : List ℕ) (b : Bool) → p x ≡ b → list_all p (take (prefix_len p xs) xs) ≡ true →
    list_all p (take (prefix_len p (x ∷ xs)) (x ∷ xs)) ≡ true
passing_more p x xs true e h = let n : prefix_len p (x ∷ xs) ≡ suc (prefix_len p xs) = rw e (omega arith) in rw (n, e) h
passing_more p x xs false e h = let n : prefix_len p (x ∷ xs) ≡ 0 = rw e refl in rw n refl

passing : (p : ℕ → Bool) (xs : List ℕ) → list_all p (take (prefix_len p xs) xs) ≡ true
passing p [] = refl
passing p (x ∷ xs) = passing_more p x xs (p x) refl (passing p xs)

word_parts : (b : ℕ) (bs : List ℕ) → is_letter b ≡ true → prefix_len is_word_byte (b ∷ bs) ≤ WORD_BYTES →
    IsWordText (take (prefix_len is_word_byte (b ∷ bs)) (b ∷ bs))
word_parts b bs letter few =
    let is_word : is_word_byte b ≡ true = rw letter refl in
    let n : prefix_len is_word_byte (b ∷ bs) ≡ suc (prefix_len is_word_byte bs) = rw is_word (omega arith) in
    record {
      first = b;
      more = take (prefix_len is_word_byte bs) bs;
      is = rw n refl;
      letter = letter;
      all = passing is_word_byte bs;
      few = rw (length-prefix_len is_word_byte (b ∷ bs)) few;
    }

word_fine : (word : List ℕ) → IsWordText word → (mark : Option Mark) → mark_in reserved word ≡ mark → IsFine (mark_or mark (S.Name word))
word_fine word w (Some mark) e = tt
word_fine word w None e = record { text = w; free = e }

not_long : (n : ℕ) → nat_lt WORD_BYTES n ≡ false → n ≤ WORD_BYTES
not_long n h = grind (arith, nat_tests)

front_word : (b : ℕ) (bs : List ℕ) → is_letter b ≡ true → IsFineIn (b ∷ bs) (word_of (prefix_len is_word_byte (b ∷ bs)))
front_word b bs h =
    let n : ℕ = prefix_len is_word_byte (b ∷ bs) in
    let word : List ℕ = take n (b ∷ bs) in
    cases (IsFineIn (b ∷ bs)) (nat_lt WORD_BYTES n) (λ _. refused (b ∷ bs) P2)
    (λ short. record { is = word_fine word (word_parts b bs h (not_long n short)) (mark_in reserved word) refl })

not_large : (n : ℕ) → nat_le (2 ^ 64) n ≡ false → n < 2 ^ 64
not_large n h = grind (arith, nat_tests)

front_number : (text : List ℕ) → IsFineIn text (number_of text)
front_number text =
    let n : ℕ = prefix_len is_ascii_digit text in
    cases (IsFineIn text) (is_letter (slice_index text n)) (λ _. refused text P2)
    (λ _. cases (IsFineIn text) (nat_le (2 ^ 64) (value_of (take n text))) (λ _. refused text P3)
    (λ small. record { is = not_large (value_of (take n text)) small }))

mark_fine : (one other : Option Mark) → IsFine (mark_or one (mark_or other S.End))
mark_fine (Some mark) other = tt
mark_fine None (Some mark) = tt
mark_fine None None = tt

any_sign : (text : List ℕ) (n : ℕ) → IsFineIn text (Ok (K.Sign, n))
any_sign text n = record { is = mark_fine (mark_in punctuation (take n text)) (mark_in operators (take n text)) }

front_sign : (text : List ℕ) (a b : ℕ) → IsFineIn text (sign_of a b)
front_sign text a b = cases (IsFineIn text) (is_pair a b) (λ _. any_sign text 2)
    (λ _. cases (IsFineIn text) (is_single a) (λ _. any_sign text 1)
    (λ _. cases (IsFineIn text) (a == byte "!" || a == byte ".") (λ _. refused text P2) (λ _. refused text P1)))

front_fine : (text : List ℕ) → IsFineIn text (lexeme_of text)
front_fine [] = record { is = tt }
front_fine (b ∷ bs) = cases (IsFineIn (b ∷ bs)) (is_letter b) (λ h. front_word b bs h)
    (λ _. cases (IsFineIn (b ∷ bs)) (is_ascii_digit b) (λ _. front_number (b ∷ bs)) (λ _. front_sign (b ∷ bs) b (slice_index bs 0)))

token_fine : (text : List ℕ) (start : ℕ) (found : Result (TokenKind × ℕ) P) (token : Token) → IsFineIn (drop start text) found →
    token_at text start found ≡ Ok token → IsFine (symbol_of token.kind (slice_range text token.start token.stop))
token_fine text start (Ok (kind, n)) token h e =
    let kind_is : kind ≡ token.kind = cc in
    let start_is : start ≡ token.start = cc in
    let stop_is : start + n ≡ token.stop = cc in
    let length_is : (start + n) - start ≡ n = omega arith in
    rw (← kind_is, ← stop_is, ← start_is, length_is) h.is
token_fine text start (Err code) token h e = absurd cc

pub lexed_fine : (bytes : List ℕ) (at stop : ℕ) (tokens : List Token) → Lexes bytes at tokens stop → AreFine (toks_of bytes tokens)
lexed_fine bytes at stop [] lexed = tt
lexed_fine bytes at stop (token ∷ tokens) lexed = (
  token_fine bytes (start_of bytes at) (lexeme_of (drop (start_of bytes at) bytes)) token (front_fine (drop (start_of bytes at) bytes)) lexed.0,
  lexed_fine bytes token.stop stop tokens lexed.1,
)
