-- Tokens as the productions of the grammar write them.
use Rattle.std.specs.Prelude.{ℕ, List}
use Rattle.kt_law.specs.declared.places.Place.{Place}
use Rattle.kt_tokens.specs.declared.tokens.Mark.{Mark}
use Rattle.kt_tokens.specs.declared.tokens.Symbol.TheVariants as S
use Rattle.kt_tokens.specs.declared.tokens.Tok.{Tok}

-- a sign or a reserved word at a place
infix 95 ◌·◌
abbrev pub ◌·◌ : Mark → Place → Tok
mark · place = record { symbol = S.Mark mark; place = place }

-- a name at a place; so are the words that have their meaning only where the grammar names them
abbrev pub named : List ℕ → Place → Tok
named name place = record { symbol = S.Name name; place = place }

-- a number at a place
abbrev pub numbered : ℕ → Place → Tok
numbered number place = record { symbol = S.Number number; place = place }
