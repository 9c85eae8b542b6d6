-- What a reader sees of a text.
use Rattle.std.specs.Prelude.{◌≡◌, ℕ, false, List, [], ◌∷◌, Option, Some, None, Result, Ok, Err}
use Rattle.kt_law.specs.declared.places.Refusal.{Refusal}
use Rattle.kt_text.specs.declared.tokens.Token.{Token}
use Rattle.kt_text.specs.Tokens.{next_token, stop_of}
use Rattle.kt_tokens.specs.declared.gauge.Gauge.{Gauge}
use Rattle.kt_tokens.specs.declared.tokens.Mark.{Mark}
use Rattle.kt_tokens.specs.declared.tokens.Symbol.{Symbol}
use Rattle.kt_tokens.specs.declared.tokens.Symbol.TheVariants as S
use Rattle.kt_tokens.specs.declared.tokens.Tok.{Tok}
use Rattle.kt_tokens.specs.Gauge.{gauge_behind, is_over, start_gauge}
use Rattle.kt_tokens.specs.Words.{tok_of}

pub record Ahead : Type 0 where
  pub bytes : List ℕ
  -- where the last token that was read ends
  pub at : ℕ
  pub gauge : Gauge

abbrev pub all_ahead : List ℕ → Ahead
all_ahead bytes = record { bytes = bytes; at = 0; gauge = start_gauge }

-- a refusal looks like the end of the text, at the place of the refusal
abbrev pub tok_or_end : List ℕ → Result Token Refusal → Tok
tok_or_end bytes (Ok token) = tok_of bytes token
tok_or_end bytes (Err refusal) = record { symbol = S.End; place = refusal.place }

abbrev pub refusal_in : Result Token Refusal → Option Refusal
refusal_in (Ok token) = None
refusal_in (Err refusal) = Some refusal

-- the sign or the reserved word that a symbol is
abbrev pub mark_of : Symbol → Option Mark
mark_of (S.Mark mark) = Some mark
mark_of _ = None

-- the next token
unfoldable pub next_of : Ahead → Tok
next_of a = tok_or_end a.bytes (next_token a.bytes a.at)

-- behind the next token
unfoldable pub rest_of : Ahead → Ahead
rest_of a = record { bytes = a.bytes; at = stop_of (next_token a.bytes a.at) a.at; gauge = gauge_behind a.gauge (next_of a).symbol }

-- the next token is this one, it is not the end, and it is not one too many
pub record Passes (a : Ahead) (t : Tok) : Type 0 where
  pub is_next : next_of a ≡ t
  pub is_token : t.symbol ≡ S.End → ⊥
  pub fits : is_over a.gauge t.symbol ≡ false

-- these tokens lie between the two
pub data Moved : Ahead → List Tok → Ahead → Type 0 where
  still : {a : Ahead} → Moved a [] a
  moved : {a b : Ahead} {t : Tok} {toks : List Tok} → Passes a t → Moved (rest_of a) toks b → Moved a (t ∷ toks) b
