-- A token that is a word may be a name.
use Rattle.std.proofs.Common.{◌≡◌, ℕ, ◌+◌, ◌-◌, ◌<◌, ◌≤◌, ◌^◌, true, false, List, [], ◌∷◌, take, drop, get_or, refl, ◌∙◌, arith, Result, Ok, Err, IfOk, slice_index, slice_range, nat_lt, nat_le, inl, inr}
use Rattle.std.specs.Prelude.{◌==◌, ◌||◌}
use Rattle.std.specs.Char.{is_ascii_digit}
use Rattle.std.specs.List.{prefix_len}
use Rattle.std.specs.Str.{byte, IsAscii}
use Rattle.std.proofs.lemmas.Bool.{cases_lt}
use Rattle.std.proofs.lemmas.Bool.Decides.{nat_tests}
use Rattle.std.proofs.lemmas.List.{get_or-take, get_or_past}
use Rattle.std.proofs.lemmas.List.Folds.{length-prefix_len}
use Rattle.std.proofs.lemmas.List.Sums.{prefix_len_passes}
use Rattle.kt_law.specs.declared.limits.TheConstants.{WORD_BYTES}
use Rattle.kt_law.specs.declared.places.P.{P}
use Rattle.kt_law.specs.declared.places.P.TheVariants.{P1, P2, P3}
use Rattle.kt_prog.specs.Names.{IsName}
use Rattle.kt_text.specs.declared.tokens.Token.{Token}
use Rattle.kt_text.specs.declared.tokens.TokenKind.{TokenKind}
use Rattle.kt_text.specs.declared.tokens.TokenKind.TheVariants as K
use Rattle.kt_text.specs.Bytes.{is_letter, is_pair, is_single, is_word_byte, value_of}
use Rattle.kt_text.specs.Gaps.{start_of}
use Rattle.kt_text.specs.Lexemes.{lexeme_of, number_of, sign_of, word_of}
use Rattle.kt_text.specs.Tokens.{next_token, token_at}
use Rattle.kt_text.proofs.Cases.{cases}

-- a word at the front is a name
record IsNameIn (text : List ℕ) (found : Result (TokenKind × ℕ) P) : Type 0 where
  is : IfOk found (λ token. token.0 ≡ K.Word → IsName (take token.1 text))

refused : (text : List ℕ) (code : P) → IsNameIn text (Err code)
refused text code = record { is = tt }

small : (b : ℕ) → is_word_byte b ≡ true → b < 128
small b h = grind (arith, nat_tests)

prefix_small : (text : List ℕ) → IsAscii (take (prefix_len is_word_byte text) text)
prefix_small text i =
    elim (cases_lt i (prefix_len is_word_byte text)) [
      | inl lt ↦ rw (get_or-take (prefix_len is_word_byte text) text i 0 lt) (small (get_or text i 0) (prefix_len_passes is_word_byte text i 0 lt))
      | inr le ↦ rw (get_or_past (take (prefix_len is_word_byte text) text) i 0 (omega (arith, length-prefix_len is_word_byte text))) (omega arith)
    ]

not_long : (n : ℕ) → nat_lt WORD_BYTES n ≡ false → n ≤ WORD_BYTES
not_long n h = grind (arith, nat_tests)

word_name : (b : ℕ) (bs : List ℕ) → is_letter b ≡ true → IsNameIn (b ∷ bs) (word_of (prefix_len is_word_byte (b ∷ bs)))
word_name b bs h =
    let n : ℕ = prefix_len is_word_byte (b ∷ bs) in
    let is_word : is_word_byte b ≡ true = rw h refl in
    let some : 0 < prefix_len is_word_byte (b ∷ bs) = rw is_word (omega arith) in
    cases (IsNameIn (b ∷ bs)) (nat_lt WORD_BYTES n) (λ _. refused (b ∷ bs) P2)
    (λ short. let few : n ≤ WORD_BYTES = not_long n short in
    record {
      is = λ _. record {
        some = rw (length-prefix_len is_word_byte (b ∷ bs)) some;
        few = rw (length-prefix_len is_word_byte (b ∷ bs)) few;
        ascii = prefix_small (b ∷ bs);
      };
    })

other_kind : (text : List ℕ) (kind : TokenKind) (n : ℕ) → (kind ≡ K.Word → ⊥) → IsNameIn text (Ok (kind, n))
other_kind text kind n h = record { is = λ e. absurd (h e) }

number_other : (n : ℕ) → K.Number n ≡ K.Word → ⊥
number_other n e = cc

sign_other : K.Sign ≡ K.Word → ⊥
sign_other e = cc

end_other : K.End ≡ K.Word → ⊥
end_other e = cc

number_name : (text : List ℕ) → IsNameIn text (number_of text)
number_name text =
    let n : ℕ = prefix_len is_ascii_digit text in
    cases (IsNameIn text) (is_letter (slice_index text n)) (λ _. refused text P2)
    (λ _. cases (IsNameIn text) (nat_le (2 ^ 64) (value_of (take n text))) (λ _. refused text P3)
    (λ _. other_kind text (K.Number (value_of (take n text))) n (number_other (value_of (take n text)))))

sign_name : (text : List ℕ) (a b : ℕ) → IsNameIn text (sign_of a b)
sign_name text a b = cases (IsNameIn text) (is_pair a b) (λ _. other_kind text K.Sign 2 sign_other)
    (λ _. cases (IsNameIn text) (is_single a) (λ _. other_kind text K.Sign 1 sign_other)
    (λ _. cases (IsNameIn text) (a == byte "!" || a == byte ".") (λ _. refused text P2) (λ _. refused text P1)))

lexeme_name : (text : List ℕ) → IsNameIn text (lexeme_of text)
lexeme_name [] = other_kind [] K.End 0 end_other
lexeme_name (b ∷ bs) = cases (IsNameIn (b ∷ bs)) (is_letter b) (λ h. word_name b bs h)
    (λ _. cases (IsNameIn (b ∷ bs)) (is_ascii_digit b) (λ _. number_name (b ∷ bs)) (λ _. sign_name (b ∷ bs) b (slice_index bs 0)))

token_name : (text : List ℕ) (start : ℕ) (found : Result (TokenKind × ℕ) P) (token : Token) → IsNameIn (drop start text) found →
    token_at text start found ≡ Ok token → token.kind ≡ K.Word → IsName (slice_range text token.start token.stop)
token_name text start (Ok (kind, n)) token h e is_word =
    let kind_is : kind ≡ token.kind = cc in
    let start_is : start ≡ token.start = cc in
    let stop_is : start + n ≡ token.stop = cc in
    let length_is : (start + n) - start ≡ n = omega arith in
    rw (← stop_is, ← start_is, length_is) (h.is (kind_is ∙ is_word))
token_name text start (Err code) token h e is_word = absurd cc

pub word_is_name : (text : List ℕ) (at : ℕ) (token : Token) → next_token text at ≡ Ok token → token.kind ≡ K.Word → IsName (slice_range text token.start token.stop)
word_is_name text at token e is_word = token_name text (start_of text at) (lexeme_of (drop (start_of text at) text)) token (lexeme_name (drop (start_of text at) text)) e is_word
