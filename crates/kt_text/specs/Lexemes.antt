-- The token at the front of a text by longest match: its kind and its length, or the rule that it breaks.
use Rattle.std.specs.Prelude.{ℕ, ◌^◌, ◌||◌, ◌==◌, List, [], ◌∷◌, take, slice_index, nat_lt, nat_le, if◌then◌else◌, Result, Ok, Err}
use Rattle.std.specs.Char.{is_ascii_digit}
use Rattle.std.specs.List.{prefix_len}
use Rattle.std.specs.Str.{byte}
use Rattle.kt_law.specs.declared.limits.TheConstants.{WORD_BYTES}
use Rattle.kt_law.specs.declared.places.P.{P}
use Rattle.kt_law.specs.declared.places.P.TheVariants.{P1, P2, P3}
use Rattle.kt_text.specs.declared.tokens.TokenKind.{TokenKind}
use Rattle.kt_text.specs.declared.tokens.TokenKind.TheVariants as T
use Rattle.kt_text.specs.Bytes.{is_letter, is_pair, is_single, is_word_byte, value_of}

-- a word of n bytes
abbrev pub word_of : ℕ → Result (TokenKind × ℕ) P
word_of n = if nat_lt WORD_BYTES n then Err P2 else Ok (T.Word, n)

-- n digits at the front; the letter behind them is told first
abbrev pub number_of_length : ℕ → List ℕ → Result (TokenKind × ℕ) P
number_of_length n text =
    if is_letter (slice_index text n) then Err P2
    else if nat_le (2 ^ 64) (value_of (take n text)) then Err P3
    else Ok (T.Number (value_of (take n text)), n)

-- as many digits as follow
abbrev pub number_of : List ℕ → Result (TokenKind × ℕ) P
number_of text = number_of_length (prefix_len is_ascii_digit text) text

-- the longest sign that begins with these two bytes; `!` and `.` alone are half a sign
abbrev pub sign_of : ℕ → ℕ → Result (TokenKind × ℕ) P
sign_of a b =
    if is_pair a b then Ok (T.Sign, 2)
    else if is_single a then Ok (T.Sign, 1)
    else if a == byte "!" || a == byte "." then Err P2
    else Err P1

abbrev pub lexeme_of : List ℕ → Result (TokenKind × ℕ) P
lexeme_of [] = Ok (T.End, 0)
lexeme_of (b ∷ bs) =
    if is_letter b then word_of (prefix_len is_word_byte (b ∷ bs))
    else if is_ascii_digit b then number_of (b ∷ bs)
    else sign_of b (slice_index bs 0)
