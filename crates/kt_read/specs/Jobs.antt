-- Which bytes are a job, and where the reader stops at others.
use Rattle.std.specs.Prelude.{◌≡◌, ℕ, ◌+◌, ◌≤◌, List, [], ◌∷◌, ◌++◌, length, Ok, Err, ◌⊎◌}
use Rattle.kt_law.specs.declared.limits.TheConstants.{BRACKETS, EXPRESSION_TOKENS}
use Rattle.kt_law.specs.declared.places.P.TheVariants.{P4, P14}
use Rattle.kt_law.specs.declared.places.Refusal.{Refusal}
use Rattle.kt_prog.specs.declared.programs.Program.{Program}
use Rattle.kt_text.specs.declared.tokens.Token.{Token}
use Rattle.kt_text.specs.Tokens.{Lexes, next_token}
use Rattle.kt_tokens.specs.declared.tokens.Mark.TheVariants as T
use Rattle.kt_tokens.specs.declared.tokens.Symbol.{Symbol}
use Rattle.kt_tokens.specs.declared.tokens.Symbol.TheVariants as S
use Rattle.kt_tokens.specs.declared.tokens.Tok.{Tok}
use Rattle.kt_tokens.specs.Gauge.{open_behind}
use Rattle.kt_tokens.specs.Words.{tok_of, toks_of}
use Rattle.kt_read.specs.Outermost.{OuterProgram}
use Rattle.kt_read.specs.Programs.{ReadsProgram}
use Rattle.kt_read.specs.Texts.{IsText}

-- some text of the grammar begins with these tokens
pub record IsPrefix (toks : List Tok) : Type 0 where
  pub program : Program
  pub more : List Tok
  pub reads : ReadsProgram program (toks ++ more) []

-- the three brackets that open
abbrev pub IsOpening : Symbol → Type 0
IsOpening (S.Mark T.BraceOpen) = Unit {0}
IsOpening (S.Mark T.ParenOpen) = Unit {0}
IsOpening (S.Mark T.SquareOpen) = Unit {0}
IsOpening _ = ⊥

-- how many are open behind these tokens, where n were open before
abbrev pub opened : ℕ → List Tok → ℕ
opened n [] = n
opened n (t ∷ ts) = opened (open_behind n t.symbol) ts

-- t is one token too many of an argument or an outermost expression of some text: as many of its tokens as there may be stand
-- before t, and it does not end before t
pub record IsLong (toks : List Tok) (t : Tok) : Type 0 where
  pub more : List Tok
  pub program : Program
  pub reads : ReadsProgram program (toks ++ t ∷ more) []
  pub before : List Tok
  pub from : List Tok
  pub rest : List Tok
  pub outermost : OuterProgram (toks ++ t ∷ more) from rest
  pub stands : toks ++ t ∷ more ≡ before ++ from
  pub counted : length toks ≡ length before + EXPRESSION_TOKENS
  pub inside : length rest ≤ length more

-- t nests too deep behind these tokens: it opens one bracket too many, or it is one token too many of an expression
abbrev pub IsDeep : List Tok → Tok → Type 0
IsDeep toks t = (IsOpening t.symbol × (BRACKETS ≤ opened 0 toks)) ⊎ IsLong toks t

-- none of these tokens does
abbrev pub IsShallow : List Tok → Type 0
IsShallow toks = (before more : List Tok) (t : Tok) → toks ≡ before ++ t ∷ more → IsDeep before t → ⊥

-- the bytes up to `from` are a text of the grammar with this program, and none of its tokens nests too deep
pub record IsJob (bytes : List ℕ) (program : Program) (from : ℕ) : Type 0 where
  pub text : IsText bytes program from
  pub shallow : IsShallow (toks_of bytes text.tokens)

-- The reader goes on behind these tokens, which end at `at`: they begin a text, are none yet, and none nests too deep.
pub record GoesOn (bytes : List ℕ) (tokens : List Token) (at : ℕ) : Type 0 where
  pub lexed : Lexes bytes 0 tokens at
  pub prefix : IsPrefix (toks_of bytes tokens)
  pub unfinished : (program : Program) → ReadsProgram program (toks_of bytes tokens) [] → ⊥
  pub shallow : IsShallow (toks_of bytes tokens)

-- the refusal of the first token that the reader does not take
pub data IsUnread (bytes : List ℕ) : Refusal → Type 0 where
  -- no token is next, or a bad one
  malformed : {tokens : List Token} {at : ℕ} {refusal : Refusal} →
      GoesOn bytes tokens at → next_token bytes at ≡ Err refusal → IsUnread bytes refusal
  -- no text goes on so; the end of the bytes is a token too
  unexpected : {tokens : List Token} {at : ℕ} {token : Token} →
      GoesOn bytes tokens at → next_token bytes at ≡ Ok token → (IsPrefix (toks_of bytes tokens ++ tok_of bytes token ∷ []) → ⊥) →
      IsUnread bytes (record { code = P4; place = token.place })
  -- some text goes on so, but the token nests too deep
  too_deep : {tokens : List Token} {at : ℕ} {token : Token} →
      GoesOn bytes tokens at → next_token bytes at ≡ Ok token → IsPrefix (toks_of bytes tokens ++ tok_of bytes token ∷ []) →
      IsDeep (toks_of bytes tokens) (tok_of bytes token) → IsUnread bytes (record { code = P14; place = token.place })
