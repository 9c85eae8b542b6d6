-- From the tokens of a text to those of the grammar.
use Rattle.std.specs.Prelude.{ℕ, List, [], ◌∷◌, Option, Some, None, codes, map, slice_range, if◌then◌else◌}
use Rattle.std.specs.Str.{bytes_eq}
use Rattle.kt_text.specs.declared.tokens.Token.{Token}
use Rattle.kt_text.specs.declared.tokens.TokenKind.{TokenKind}
use Rattle.kt_text.specs.declared.tokens.TokenKind.TheVariants as K
use Rattle.kt_tokens.specs.declared.tokens.Mark.{Mark}
use Rattle.kt_tokens.specs.declared.tokens.Mark.TheVariants as T
use Rattle.kt_tokens.specs.declared.tokens.Symbol.{Symbol}
use Rattle.kt_tokens.specs.declared.tokens.Symbol.TheVariants as S
use Rattle.kt_tokens.specs.declared.tokens.Tok.{Tok}

-- the mark that a table has for this text
abbrev pub mark_in : List (List ℕ × Mark) → List ℕ → Option Mark
mark_in [] text = None
mark_in (row ∷ rows) text = if bytes_eq text row.0 then Some row.1 else mark_in rows text

unfoldable pub reserved : List (List ℕ × Mark)
reserved =
    (codes "object", T.Object) ∷ (codes "task", T.Task) ∷ (codes "loop", T.Loop) ∷ (codes "main", T.Main) ∷
    (codes "let", T.Let) ∷ (codes "if", T.If) ∷ (codes "else", T.Else) ∷ (codes "for", T.For) ∷ (codes "in", T.In) ∷
    (codes "fork", T.Fork) ∷ (codes "data", T.Data) ∷ []

unfoldable pub punctuation : List (List ℕ × Mark)
punctuation =
    (codes "{", T.BraceOpen) ∷ (codes "}", T.BraceClose) ∷ (codes "(", T.ParenOpen) ∷ (codes ")", T.ParenClose) ∷
    (codes "[", T.SquareOpen) ∷ (codes "]", T.SquareClose) ∷ (codes ",", T.Comma) ∷ (codes ";", T.Semicolon) ∷
    (codes "=", T.Becomes) ∷ (codes "..", T.Dots) ∷ []

unfoldable pub operators : List (List ℕ × Mark)
operators =
    (codes "==", T.Eq) ∷ (codes "!=", T.Ne) ∷ (codes "<", T.Lt) ∷ (codes "<=", T.Le) ∷ (codes ">", T.Gt) ∷
    (codes ">=", T.Ge) ∷ (codes "+", T.Plus) ∷ (codes "-", T.Minus) ∷ (codes "*", T.Star) ∷ (codes "/", T.Slash) ∷
    (codes "%", T.Percent) ∷ []

abbrev pub mark_or : Option Mark → Symbol → Symbol
mark_or (Some mark) other = S.Mark mark
mark_or None other = other

-- a word that is not reserved is a name; every sign is in one of the two tables
abbrev pub symbol_of : TokenKind → List ℕ → Symbol
symbol_of K.Word text = mark_or (mark_in reserved text) (S.Name text)
symbol_of (K.Number number) text = S.Number number
symbol_of K.Sign text = mark_or (mark_in punctuation text) (mark_or (mark_in operators text) S.End)
symbol_of K.End text = S.End

abbrev pub tok_of : List ℕ → Token → Tok
tok_of bytes token = record { symbol = symbol_of token.kind (slice_range bytes token.start token.stop); place = token.place }

abbrev pub toks_of : List ℕ → List Token → List Tok
toks_of bytes tokens = map (tok_of bytes) tokens
