-- Which tokens may follow a part: none that would carry it on.
use Rattle.std.specs.Prelude.{Bool, true, false}
use Rattle.kt_tokens.specs.declared.tokens.Mark.TheVariants as T
use Rattle.kt_tokens.specs.declared.tokens.Symbol.{Symbol}
use Rattle.kt_tokens.specs.declared.tokens.Symbol.TheVariants as S

abbrev pub after_atom : Symbol → Bool
after_atom (S.Mark T.SquareOpen) = false
after_atom (S.Mark T.ParenOpen) = false
after_atom _ = true

abbrev pub after_product : Symbol → Bool
after_product (S.Mark T.SquareOpen) = false
after_product (S.Mark T.ParenOpen) = false
after_product (S.Mark T.Star) = false
after_product (S.Mark T.Slash) = false
after_product (S.Mark T.Percent) = false
after_product _ = true

abbrev pub after_sum : Symbol → Bool
after_sum (S.Mark T.SquareOpen) = false
after_sum (S.Mark T.ParenOpen) = false
after_sum (S.Mark T.Star) = false
after_sum (S.Mark T.Slash) = false
after_sum (S.Mark T.Percent) = false
after_sum (S.Mark T.Plus) = false
after_sum (S.Mark T.Minus) = false
after_sum _ = true

abbrev pub after_expression : Symbol → Bool
after_expression (S.Mark T.SquareOpen) = false
after_expression (S.Mark T.ParenOpen) = false
after_expression (S.Mark T.Star) = false
after_expression (S.Mark T.Slash) = false
after_expression (S.Mark T.Percent) = false
after_expression (S.Mark T.Plus) = false
after_expression (S.Mark T.Minus) = false
after_expression (S.Mark T.Eq) = false
after_expression (S.Mark T.Ne) = false
after_expression (S.Mark T.Lt) = false
after_expression (S.Mark T.Le) = false
after_expression (S.Mark T.Gt) = false
after_expression (S.Mark T.Ge) = false
after_expression _ = true
