-- Words and signs that the grammar has tables for.
use Rattle.std.specs.Prelude.{ℕ, List, [], ◌∷◌, Option, Some, None, codes, if◌then◌else◌}
use Rattle.std.specs.Str.{bytes_eq}
use Rattle.kt_law.specs.declared.modes.Mode.{Mode}
use Rattle.kt_law.specs.declared.modes.Mode.TheVariants as D
use Rattle.kt_law.specs.declared.operators.BinOp.{BinOp}
use Rattle.kt_law.specs.declared.operators.BinOp.TheVariants as B
use Rattle.kt_law.specs.declared.operators.Op.{Op}
use Rattle.kt_law.specs.declared.operators.Op.TheVariants as O
use Rattle.kt_tokens.specs.declared.tokens.Mark.TheVariants as T
use Rattle.kt_tokens.specs.declared.tokens.Symbol.{Symbol}
use Rattle.kt_tokens.specs.declared.tokens.Symbol.TheVariants as S

-- "==" | "!=" | "<" | "<=" | ">" | ">="
abbrev pub comparison_of : Symbol → Option BinOp
comparison_of (S.Mark T.Eq) = Some B.Eq
comparison_of (S.Mark T.Ne) = Some B.Ne
comparison_of (S.Mark T.Lt) = Some B.Lt
comparison_of (S.Mark T.Le) = Some B.Le
comparison_of (S.Mark T.Gt) = Some B.Gt
comparison_of (S.Mark T.Ge) = Some B.Ge
comparison_of _ = None

-- "+" | "-"
abbrev pub additive_of : Symbol → Option BinOp
additive_of (S.Mark T.Plus) = Some B.Add
additive_of (S.Mark T.Minus) = Some B.Sub
additive_of _ = None

-- "*" | "/" | "%"
abbrev pub multiplicative_of : Symbol → Option BinOp
multiplicative_of (S.Mark T.Star) = Some B.Mul
multiplicative_of (S.Mark T.Slash) = Some B.Div
multiplicative_of (S.Mark T.Percent) = Some B.Rem
multiplicative_of _ = None

-- what a table has for this word
abbrev pub entry_of : {A : Type 0} → List (List ℕ × A) → List ℕ → Option A
entry_of [] word = None
entry_of (row ∷ rows) word = if bytes_eq word row.0 then Some row.1 else entry_of rows word

-- fun = "satadd" | "min" | "max" | "and" | "or" | "xor"
unfoldable pub function_of : List ℕ → Option BinOp
function_of word =
    entry_of
    ((codes "satadd", B.SatAdd) ∷ (codes "min", B.Min) ∷ (codes "max", B.Max) ∷ (codes "and", B.And) ∷ (codes "or", B.Or) ∷
    (codes "xor", B.Xor) ∷ []) word

-- op = "add" | "min" | "max" | "and" | "or" | "xor"
unfoldable pub op_of : List ℕ → Option Op
op_of word =
    entry_of
    ((codes "add", O.Add) ∷ (codes "min", O.Min) ∷ (codes "max", O.Max) ∷ (codes "and", O.And) ∷ (codes "or", O.Or) ∷
    (codes "xor", O.Xor) ∷ []) word

-- "r" | "w" | "x"
abbrev pub direct_modes : List (List ℕ × Mode)
direct_modes = (codes "r", D.R) ∷ (codes "w", D.W) ∷ (codes "x", D.X) ∷ []

unfoldable pub direct_of : List ℕ → Option Mode
direct_of word = entry_of direct_modes word

-- "rp" | "wp" | "xp"
abbrev pub postponed_modes : List (List ℕ × Mode)
postponed_modes = (codes "rp", D.Rp) ∷ (codes "wp", D.Wp) ∷ (codes "xp", D.Xp) ∷ []

unfoldable pub postponed_of : List ℕ → Option Mode
postponed_of word = entry_of postponed_modes word
