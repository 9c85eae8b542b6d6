-- Words, lines and lists of the canonical text.
use Rattle.std.specs.Prelude.{ℕ, List, [], ◌∷◌, ◌++◌, codes, replicate}
use Rattle.kt_law.specs.declared.operators.Op.{Op}
use Rattle.kt_law.specs.declared.operators.Op.TheVariants as O

abbrev pub op_word : Op → List ℕ
op_word O.Add = codes "add"
op_word O.Min = codes "min"
op_word O.Max = codes "max"
op_word O.And = codes "and"
op_word O.Or = codes "or"
op_word O.Xor = codes "xor"

-- blanks before a line
abbrev pub blanks : ℕ → List ℕ
blanks n = replicate n 32

-- a line with its blanks and its line feed
abbrev pub line : ℕ → List ℕ → List ℕ
line indent text = blanks indent ++ (text ++ codes "\n")

-- texts with a comma and a blank between them, and `lead` before the first
abbrev pub listed : List ℕ → List (List ℕ) → List ℕ
listed lead [] = []
listed lead (x ∷ xs) = lead ++ (x ++ listed (codes ", ") xs)
