-- Tokens at the front of a text: words, numbers and signs, each over what is behind it.
use Rattle.std.proofs.Common.{◌≡◌, ℕ, zero, suc, ◌<◌, ◌≤◌, ◌^◌, Bool, true, false, List, [], ◌∷◌, ◌++◌, length, codes, refl, ap, arith, Option, Some, None, Ok, nat_le}
use Rattle.std.specs.Prelude.{◌&&◌}
use Rattle.std.specs.Fmt.{decimal}
use Rattle.std.specs.List.{list_all}
use Rattle.std.proofs.lemmas.Bool.Decides.{nat_tests}
use Rattle.kt_law.specs.declared.limits.TheConstants.{WORD_BYTES}
use Rattle.kt_law.specs.declared.operators.Op.{Op}
use Rattle.kt_law.specs.declared.operators.Op.TheVariants as O
use Rattle.kt_text.specs.declared.tokens.TokenKind.TheVariants as K
use Rattle.kt_text.specs.Bytes.{is_letter, is_word_byte}
use Rattle.kt_text.specs.Gaps.{BeginsNoGap}
use Rattle.kt_text.specs.Lexemes.{lexeme_of}
use Rattle.kt_print.specs.CanonicalWords.{blanks, op_word}
use Rattle.kt_tokens.specs.declared.tokens.Mark.{Mark}
use Rattle.kt_tokens.specs.declared.tokens.Mark.TheVariants as T
use Rattle.kt_tokens.specs.declared.tokens.Symbol.TheVariants as S
use Rattle.kt_tokens.specs.declared.tokens.Tok.{Tok}
use Rattle.kt_tokens.specs.Tokens.{◌·◌, named, numbered}
use Rattle.kt_tokens.specs.Words.{mark_in, mark_or, punctuation, reserved, symbol_of}
use Rattle.kt_read.specs.Operators.{op_of}
use Rattle.kt_canon.proofs.Scanned.{Scans, blank, token, where_at}
use Rattle.kt_canon.proofs.Spelled.{IsLoneSign, IsWordText, NoWord, decimal_writes, lone_lexeme, number_begins, number_lexeme, word_begins, word_lexeme}
use Rattle.kt_canon.proofs.FineTokens.{IsFreeWord}

-- ---- in general

abbrev pub is_word : List ℕ → Bool
is_word [] = false
is_word (b ∷ bs) = is_letter b && (list_all is_word_byte bs && nat_le (length (b ∷ bs)) WORD_BYTES)

three : (x y z : Bool) → (x && (y && z)) ≡ true → (x ≡ true) × (y ≡ true) × (z ≡ true)
three true true true h = (refl, refl, refl)
three true true false h = absurd cc
three true false z h = absurd cc
three false y z h = absurd cc

fits : (n : ℕ) → nat_le n WORD_BYTES ≡ true → n ≤ WORD_BYTES
fits n h = grind (arith, nat_tests)

word_text : (word : List ℕ) → is_word word ≡ true → IsWordText word
word_text [] h = absurd cc
word_text (b ∷ bs) h =
    let parts = three (is_letter b) (list_all is_word_byte bs) (nat_le (length (b ∷ bs)) WORD_BYTES) h in
    record { first = b; more = bs; is = refl; letter = parts.0; all = parts.1; few = fits (length (b ∷ bs)) parts.2 }

module _ {bytes text rest : List ℕ} {ts : List Tok} where
  keyword : (word : List ℕ) (mark : Mark) → IsWordText word → mark_in reserved word ≡ Some mark → NoWord text → Scans bytes text ts rest →
      Scans bytes (word ++ text) (mark · where_at bytes (word ++ text) ∷ ts) rest
  keyword word mark w is ends s =
      token K.Word word (S.Mark mark) text (word_begins word text w) (word_lexeme word text w ends) (ap (λ (m : Option Mark). mark_or m (S.Name word)) is) s

  pub a_name : (word : List ℕ) → IsFreeWord word → NoWord text → Scans bytes text ts rest →
      Scans bytes (word ++ text) (named word (where_at bytes (word ++ text)) ∷ ts) rest
  a_name word w ends s =
      token K.Word word (S.Name word) text (word_begins word text w.text) (word_lexeme word text w.text ends) (ap (λ (m : Option Mark). mark_or m (S.Name word)) w.free) s

  pub a_number : (n : ℕ) → n < 2 ^ 64 → NoWord text → Scans bytes text ts rest →
      Scans bytes (decimal n ++ text) (numbered n (where_at bytes (decimal n ++ text)) ∷ ts) rest
  a_number n small ends s =
      let w = decimal_writes n small in
      token (K.Number n) (decimal n) (S.Number n) text (number_begins n (decimal n) text w) (number_lexeme n (decimal n) text w small ends) refl s

  lone : (a : ℕ) (mark : Mark) → IsLoneSign a → symbol_of K.Sign (a ∷ []) ≡ S.Mark mark → Scans bytes text ts rest →
      Scans bytes (a ∷ text) (mark · where_at bytes (a ∷ text) ∷ ts) rest
  lone a mark sign is s = token K.Sign (a ∷ []) (S.Mark mark) text sign.no_gap (lone_lexeme a text sign) is s

  -- ---- signs

  pub brace_open : Scans bytes text ts rest → Scans bytes (codes "{" ++ text) (T.BraceOpen · where_at bytes (codes "{" ++ text) ∷ ts) rest
  unfolding punctuation
  brace_open s = lone 123 T.BraceOpen (record { no_gap = refl; no_letter = refl; no_digit = refl; single = refl; no_pair = refl; no_dot = refl }) refl s

  pub brace_close : Scans bytes text ts rest → Scans bytes (codes "}" ++ text) (T.BraceClose · where_at bytes (codes "}" ++ text) ∷ ts) rest
  unfolding punctuation
  brace_close s = lone 125 T.BraceClose (record { no_gap = refl; no_letter = refl; no_digit = refl; single = refl; no_pair = refl; no_dot = refl }) refl s

  pub paren_open : Scans bytes text ts rest → Scans bytes (codes "(" ++ text) (T.ParenOpen · where_at bytes (codes "(" ++ text) ∷ ts) rest
  unfolding punctuation
  paren_open s = lone 40 T.ParenOpen (record { no_gap = refl; no_letter = refl; no_digit = refl; single = refl; no_pair = refl; no_dot = refl }) refl s

  pub paren_close : Scans bytes text ts rest → Scans bytes (codes ")" ++ text) (T.ParenClose · where_at bytes (codes ")" ++ text) ∷ ts) rest
  unfolding punctuation
  paren_close s = lone 41 T.ParenClose (record { no_gap = refl; no_letter = refl; no_digit = refl; single = refl; no_pair = refl; no_dot = refl }) refl s

  pub square_open : Scans bytes text ts rest → Scans bytes (codes "[" ++ text) (T.SquareOpen · where_at bytes (codes "[" ++ text) ∷ ts) rest
  unfolding punctuation
  square_open s = lone 91 T.SquareOpen (record { no_gap = refl; no_letter = refl; no_digit = refl; single = refl; no_pair = refl; no_dot = refl }) refl s

  pub square_close : Scans bytes text ts rest → Scans bytes (codes "]" ++ text) (T.SquareClose · where_at bytes (codes "]" ++ text) ∷ ts) rest
  unfolding punctuation
  square_close s = lone 93 T.SquareClose (record { no_gap = refl; no_letter = refl; no_digit = refl; single = refl; no_pair = refl; no_dot = refl }) refl s

  pub comma : Scans bytes text ts rest → Scans bytes (codes "," ++ text) (T.Comma · where_at bytes (codes "," ++ text) ∷ ts) rest
  unfolding punctuation
  comma s = lone 44 T.Comma (record { no_gap = refl; no_letter = refl; no_digit = refl; single = refl; no_pair = refl; no_dot = refl }) refl s

  pub semicolon : Scans bytes text ts rest → Scans bytes (codes ";" ++ text) (T.Semicolon · where_at bytes (codes ";" ++ text) ∷ ts) rest
  unfolding punctuation
  semicolon s = lone 59 T.Semicolon (record { no_gap = refl; no_letter = refl; no_digit = refl; single = refl; no_pair = refl; no_dot = refl }) refl s

  pub dots : Scans bytes text ts rest → Scans bytes (codes ".." ++ text) (T.Dots · where_at bytes (codes ".." ++ text) ∷ ts) rest
  unfolding punctuation
  dots s = token K.Sign (codes "..") (S.Mark T.Dots) text refl refl refl s

-- a sign that may begin another stands before a blank
pub sign_and_blank : {bytes text rest : List ℕ} {t : Tok} {ts : List Tok} (sign : List ℕ) (mark : Mark) → BeginsNoGap (sign ++ 32 ∷ text) →
    lexeme_of (sign ++ 32 ∷ text) ≡ Ok (K.Sign, length sign) → symbol_of K.Sign sign ≡ S.Mark mark → Scans bytes text (t ∷ ts) rest →
    Scans bytes (sign ++ 32 ∷ text) (mark · where_at bytes (sign ++ 32 ∷ text) ∷ t ∷ ts) rest
sign_and_blank {text} sign mark begins is symbol s = token K.Sign sign (S.Mark mark) (32 ∷ text) begins is symbol (blank refl refl s)

-- ---- blanks

pub indented : {bytes text rest : List ℕ} {t : Tok} {ts : List Tok} (n : ℕ) → Scans bytes text (t ∷ ts) rest → Scans bytes (blanks n ++ text) (t ∷ ts) rest
indented zero s = s
indented (suc n) s = blank refl refl (indented n s)

-- ---- reserved words

module _ {bytes text rest : List ℕ} {ts : List Tok} (ends : NoWord text) (s : Scans bytes text ts rest) where
  pub object_word : Scans bytes (codes "object" ++ text) (T.Object · where_at bytes (codes "object" ++ text) ∷ ts) rest
  unfolding reserved
  object_word = keyword (codes "object") T.Object (word_text (codes "object") refl) refl ends s

  pub task_word : Scans bytes (codes "task" ++ text) (T.Task · where_at bytes (codes "task" ++ text) ∷ ts) rest
  unfolding reserved
  task_word = keyword (codes "task") T.Task (word_text (codes "task") refl) refl ends s

  pub loop_word : Scans bytes (codes "loop" ++ text) (T.Loop · where_at bytes (codes "loop" ++ text) ∷ ts) rest
  unfolding reserved
  loop_word = keyword (codes "loop") T.Loop (word_text (codes "loop") refl) refl ends s

  pub main_word : Scans bytes (codes "main" ++ text) (T.Main · where_at bytes (codes "main" ++ text) ∷ ts) rest
  unfolding reserved
  main_word = keyword (codes "main") T.Main (word_text (codes "main") refl) refl ends s

  pub let_word : Scans bytes (codes "let" ++ text) (T.Let · where_at bytes (codes "let" ++ text) ∷ ts) rest
  unfolding reserved
  let_word = keyword (codes "let") T.Let (word_text (codes "let") refl) refl ends s

  pub if_word : Scans bytes (codes "if" ++ text) (T.If · where_at bytes (codes "if" ++ text) ∷ ts) rest
  unfolding reserved
  if_word = keyword (codes "if") T.If (word_text (codes "if") refl) refl ends s

  pub else_word : Scans bytes (codes "else" ++ text) (T.Else · where_at bytes (codes "else" ++ text) ∷ ts) rest
  unfolding reserved
  else_word = keyword (codes "else") T.Else (word_text (codes "else") refl) refl ends s

  pub for_word : Scans bytes (codes "for" ++ text) (T.For · where_at bytes (codes "for" ++ text) ∷ ts) rest
  unfolding reserved
  for_word = keyword (codes "for") T.For (word_text (codes "for") refl) refl ends s

  pub in_word : Scans bytes (codes "in" ++ text) (T.In · where_at bytes (codes "in" ++ text) ∷ ts) rest
  unfolding reserved
  in_word = keyword (codes "in") T.In (word_text (codes "in") refl) refl ends s

  pub fork_word : Scans bytes (codes "fork" ++ text) (T.Fork · where_at bytes (codes "fork" ++ text) ∷ ts) rest
  unfolding reserved
  fork_word = keyword (codes "fork") T.Fork (word_text (codes "fork") refl) refl ends s

  pub data_word : Scans bytes (codes "data" ++ text) (T.Data · where_at bytes (codes "data" ++ text) ∷ ts) rest
  unfolding reserved
  data_word = keyword (codes "data") T.Data (word_text (codes "data") refl) refl ends s

-- ---- words that are free

pub free_word : (word : List ℕ) → is_word word ≡ true → mark_in reserved word ≡ None → IsFreeWord word
free_word word w free = record { text = word_text word w; free = free }

pub op_free : (op : Op) → IsFreeWord (op_word op)
unfolding reserved
op_free O.Add = free_word (codes "add") refl refl
op_free O.Min = free_word (codes "min") refl refl
op_free O.Max = free_word (codes "max") refl refl
op_free O.And = free_word (codes "and") refl refl
op_free O.Or = free_word (codes "or") refl refl
op_free O.Xor = free_word (codes "xor") refl refl

pub op_is : (op : Op) → op_of (op_word op) ≡ Some op
unfolding op_of
op_is O.Add = refl
op_is O.Min = refl
op_is O.Max = refl
op_is O.And = refl
op_is O.Or = refl
op_is O.Xor = refl
