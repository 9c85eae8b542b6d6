-- How a lexer finds words, numbers and signs at the front of a text.
use Rattle.kt_canon.proofs.Regrouped.{take_front}
use Rattle.std.proofs.Common.{◌≡◌, ℕ, suc, ◌+◌, ◌*◌, ◌-◌, ◌/◌, ◌%◌, ◌<◌, ◌≤◌, ◌^◌, Bool, true, false, List, [], ◌∷◌, ◌++◌, length, codes, refl, ap, sym, subst, ◌∙◌, arith, Ok, slice_index, nat_lt, nat_le}
use Rattle.std.specs.Prelude.{◌||◌, ◌&&◌, ◌==◌}
use Rattle.std.specs.Char.{is_ascii_digit}
use Rattle.std.specs.Fmt.{decimal}
use Rattle.std.specs.List.{list_all, prefix_len}
use Rattle.std.specs.Str.{byte}
use Rattle.std.proofs.lemmas.Bool.Decides.{nat_tests}
use Rattle.std.proofs.lemmas.Fmt.{decimal_by_steps}
use Rattle.std.proofs.lemmas.List.{length-append}
use Rattle.std.proofs.lemmas.List.Folds.{list_all-append}
use Rattle.std.proofs.lemmas.List.Sums.{fold-append}
use Rattle.kt_law.specs.declared.limits.TheConstants.{WORD_BYTES}
use Rattle.kt_text.specs.declared.tokens.TokenKind.TheVariants as K
use Rattle.kt_text.specs.Bytes.{is_among, is_letter, is_pair, is_single, is_word_byte, value_of}
use Rattle.kt_text.specs.Gaps.{BeginsNoGap, is_gap}
use Rattle.kt_text.specs.Lexemes.{lexeme_of, number_of, number_of_length, word_of}

-- no word and no number goes on here
abbrev pub NoWord : List ℕ → Type 0
NoWord [] = Unit {0}
NoWord (b ∷ bytes) = is_word_byte b ≡ false

prefix_stops : (p : ℕ → Bool) (b : ℕ) (rest : List ℕ) → p b ≡ false → prefix_len p (b ∷ rest) ≡ 0
prefix_stops p b rest h = rw h refl

prefix_more : (p : ℕ → Bool) (b : ℕ) (rest : List ℕ) (n : ℕ) → p b ≡ true → prefix_len p rest ≡ n → prefix_len p (b ∷ rest) ≡ suc n
prefix_more p b rest n h e = rw (h, e) (omega arith)

both : (x y : Bool) → (x && y) ≡ true → (x ≡ true) × (y ≡ true)
both true y h = (refl, h)
both false y h = absurd cc

pub all_head : (p : ℕ → Bool) (b : ℕ) (bs : List ℕ) → list_all p (b ∷ bs) ≡ true → (p b ≡ true) × (list_all p bs ≡ true)
all_head p b bs h = both (p b) (list_all p bs) h

-- ---- words

pub record IsWordText (word : List ℕ) : Type 0 where
  pub first : ℕ
  pub more : List ℕ
  pub is : word ≡ first ∷ more
  pub letter : is_letter first ≡ true
  pub all : list_all is_word_byte more ≡ true
  pub few : length word ≤ WORD_BYTES

pub letter_no_gap : (b : ℕ) → is_letter b ≡ true → is_gap false b ≡ false
letter_no_gap b h = grind (arith, nat_tests)

digit_no_gap : (b : ℕ) → is_ascii_digit b ≡ true → is_gap false b ≡ false
digit_no_gap b h = grind (arith, nat_tests)

digit_no_letter : (b : ℕ) → is_ascii_digit b ≡ true → is_letter b ≡ false
digit_no_letter b h = grind (arith, nat_tests)

-- so many pass as the text has, where the rest begins with none that passes
pub prefix_all : (p : ℕ → Bool) (text : List ℕ) (b : ℕ) (rest : List ℕ) → list_all p text ≡ true → p b ≡ false → prefix_len p (text ++ b ∷ rest) ≡ length text
prefix_all p [] b rest h stops = prefix_stops p b rest stops
prefix_all p (c ∷ text) b rest h stops =
    let parts = all_head p c text h in prefix_more p c (text ++ b ∷ rest) (length text) parts.0 (prefix_all p text b rest parts.1 stops)

prefix_to_end : (p : ℕ → Bool) (text : List ℕ) → list_all p text ≡ true → prefix_len p (text ++ []) ≡ length text
prefix_to_end p [] h = refl
prefix_to_end p (c ∷ text) h =
    let parts = all_head p c text h in prefix_more p c (text ++ []) (length text) parts.0 (prefix_to_end p text parts.1)

word_prefix : (text rest : List ℕ) → list_all is_word_byte text ≡ true → NoWord rest → prefix_len is_word_byte (text ++ rest) ≡ length text
word_prefix text [] h ends = prefix_to_end is_word_byte text h
word_prefix text (b ∷ rest) h ends = prefix_all is_word_byte text b rest h ends

letter_is_word : (b : ℕ) → is_letter b ≡ true → is_word_byte b ≡ true
letter_is_word b h = rw h refl

word_fits : (n : ℕ) → n ≤ WORD_BYTES → word_of n ≡ Ok (K.Word, n)
word_fits n h =
    let short : nat_lt WORD_BYTES n ≡ false = grind (arith, nat_tests) in
    rw short refl

letter_lexeme : (b : ℕ) (bs : List ℕ) → is_letter b ≡ true → lexeme_of (b ∷ bs) ≡ word_of (prefix_len is_word_byte (b ∷ bs))
letter_lexeme b bs h = rw h refl

front_word : (first : ℕ) (more rest : List ℕ) → is_letter first ≡ true → list_all is_word_byte more ≡ true → length (first ∷ more) ≤ WORD_BYTES → NoWord rest →
    lexeme_of ((first ∷ more) ++ rest) ≡ Ok (K.Word, length (first ∷ more))
front_word first more rest letter all few ends =
    let n : prefix_len is_word_byte (first ∷ (more ++ rest)) ≡ length (first ∷ more) =
    prefix_more is_word_byte first (more ++ rest) (length more) (letter_is_word first letter) (word_prefix more rest all ends) in
    letter_lexeme first (more ++ rest) letter ∙ ap word_of n ∙ word_fits (length (first ∷ more)) few

pub word_lexeme : (word rest : List ℕ) → IsWordText word → NoWord rest → lexeme_of (word ++ rest) ≡ Ok (K.Word, length word)
word_lexeme word rest w ends =
    subst (λ (word : List ℕ). lexeme_of (word ++ rest) ≡ Ok (K.Word, length word)) (sym w.is)
    (front_word w.first w.more rest w.letter w.all (subst (λ (word : List ℕ). length word ≤ WORD_BYTES) w.is w.few) ends)

pub word_begins : (word rest : List ℕ) → IsWordText word → BeginsNoGap (word ++ rest)
word_begins word rest w = subst (λ (word : List ℕ). BeginsNoGap (word ++ rest)) (sym w.is) (letter_no_gap w.first w.letter)

-- ---- numbers

-- digits that write n
pub record Writes (n : ℕ) (digits : List ℕ) : Type 0 where
  pub some : 0 < length digits
  pub all : list_all is_ascii_digit digits ≡ true
  pub value : value_of digits ≡ n

digit_of : (n : ℕ) → n < 10 → is_ascii_digit (48 + n) ≡ true
digit_of n h = grind (arith, nat_tests)

one_digit : (n : ℕ) → n < 10 → Writes n ((48 + n) ∷ [])
one_digit n h = record { some = omega arith; all = rw (digit_of n h) refl; value = omega arith }

more_digits : (n : ℕ) (digits : List ℕ) → 10 ≤ n → Writes (n / 10) digits → Writes n (digits ++ (48 + n % 10) ∷ [])
more_digits n digits h w = record {
  some = omega (arith, length-append digits ((48 + n % 10) ∷ []));
  all = rw (list_all-append is_ascii_digit digits ((48 + n % 10) ∷ []), w.all, digit_of (n % 10) (omega arith)) refl;
  value = rw (fold-append (λ n d. n * 10 + (d - byte "0")) 0 digits ((48 + n % 10) ∷ []), w.value) (omega arith);
}

pub decimal_writes : (n : ℕ) → n < 2 ^ 64 → Writes n (decimal n)
decimal_writes = decimal_by_steps Writes one_digit more_digits

either : (x y : Bool) → (x || y) ≡ false → y ≡ false
either true y h = absurd cc
either false y h = h

first_of_two : (x y : Bool) → (x || y) ≡ false → x ≡ false
first_of_two true y h = absurd cc
first_of_two false y h = refl

letter_of : (b : ℕ) → is_word_byte b ≡ false → is_letter b ≡ false
letter_of b h = first_of_two (is_letter b) (is_ascii_digit b) h

no_letter_behind : (digits rest : List ℕ) → NoWord rest → is_letter (slice_index (digits ++ rest) (length digits)) ≡ false
no_letter_behind [] [] ends = refl
no_letter_behind [] (b ∷ rest) ends = (letter_of b ends)
no_letter_behind (d ∷ digits) rest ends = no_letter_behind digits rest ends

no_digit : (b : ℕ) → is_word_byte b ≡ false → is_ascii_digit b ≡ false
no_digit b h = either (is_letter b) (is_ascii_digit b) h

digit_prefix : (text rest : List ℕ) → list_all is_ascii_digit text ≡ true → NoWord rest → prefix_len is_ascii_digit (text ++ rest) ≡ length text
digit_prefix text [] h ends = prefix_to_end is_ascii_digit text h
digit_prefix text (b ∷ rest) h ends = prefix_all is_ascii_digit text b rest h (no_digit b ends)

number_fits : (n : ℕ) (digits rest : List ℕ) → Writes n digits → n < 2 ^ 64 → NoWord rest →
    number_of_length (length digits) (digits ++ rest) ≡ Ok (K.Number n, length digits)
number_fits n digits rest w h ends =
    let small : nat_le (2 ^ 64) n ≡ false = grind (arith, nat_tests) in
    rw (no_letter_behind digits rest ends, take_front digits rest, w.value, small) refl

digit_lexeme : (b : ℕ) (bs : List ℕ) → is_ascii_digit b ≡ true → lexeme_of (b ∷ bs) ≡ number_of (b ∷ bs)
digit_lexeme b bs h = rw (digit_no_letter b h, h) refl

pub number_lexeme : (n : ℕ) (digits rest : List ℕ) → Writes n digits → n < 2 ^ 64 → NoWord rest → lexeme_of (digits ++ rest) ≡ Ok (K.Number n, length digits)
number_lexeme n [] rest w h ends = absurd (omega (arith, w.some))
number_lexeme n (d ∷ digits) rest w h ends =
    digit_lexeme d (digits ++ rest) (all_head is_ascii_digit d digits w.all).0
    ∙ ap (λ k. number_of_length k ((d ∷ digits) ++ rest)) (digit_prefix (d ∷ digits) rest w.all ends)
    ∙ number_fits n (d ∷ digits) rest w h ends

pub number_begins : (n : ℕ) (digits rest : List ℕ) → Writes n digits → BeginsNoGap (digits ++ rest)
number_begins n [] rest w = absurd (omega (arith, w.some))
number_begins n (d ∷ digits) rest w = digit_no_gap d (all_head is_ascii_digit d digits w.all).0

-- ---- signs

-- a sign that begins no longer one
pub record IsLoneSign (a : ℕ) : Type 0 where
  pub no_gap : is_gap false a ≡ false
  pub no_letter : is_letter a ≡ false
  pub no_digit : is_ascii_digit a ≡ false
  pub single : is_single a ≡ true
  pub no_pair : is_among (codes "=!<>") a ≡ false
  pub no_dot : (a == byte ".") ≡ false

no_and : (x y : Bool) → (x && false || false && y) ≡ false
no_and true y = refl
no_and false y = refl

not_pair : (a b : ℕ) → IsLoneSign a → is_pair a b ≡ false
not_pair a b s = rw (s.no_pair, s.no_dot) (no_and (b == 61) (b == 46))

pub lone_lexeme : (a : ℕ) (rest : List ℕ) → IsLoneSign a → lexeme_of (a ∷ rest) ≡ Ok (K.Sign, 1)
lone_lexeme a rest s = rw (s.no_letter, s.no_digit, not_pair a (slice_index rest 0) s, s.single) refl
