-- Operators, and what may follow.
use Rattle.std.proofs.Common.{◌≡◌, Bool, true, false, List, [], ◌∷◌, Option, Some, None, refl, sym, ap, ◌∙◌}
use Rattle.kt_law.specs.declared.operators.BinOp.{BinOp}
use Rattle.kt_tokens.specs.declared.tokens.Mark.TheVariants as T
use Rattle.kt_tokens.specs.declared.tokens.Symbol.{Symbol}
use Rattle.kt_tokens.specs.declared.tokens.Symbol.TheVariants as S
use Rattle.kt_tokens.specs.declared.tokens.Tok.{Tok}
use Rattle.kt_tokens.specs.Reading.{Follows}
use Rattle.kt_read.specs.Follows.{after_atom, after_product, after_sum, after_expression}
use Rattle.kt_read.specs.Operators.{comparison_of, additive_of, multiplicative_of}

abbrev pub May : (Symbol → Bool) → Symbol → Type 0
May may s = elim (may s) [ true ↦ Unit {0} | false ↦ ⊥ ]

pub additive_may : (s : Symbol) (op : BinOp) → additive_of s ≡ Some op → May after_product s
additive_may (S.Mark T.Plus) op e = tt
additive_may (S.Mark T.Minus) op e = tt
additive_may _ op e = cc

pub multiplicative_may : (s : Symbol) (op : BinOp) → multiplicative_of s ≡ Some op → May after_atom s
multiplicative_may (S.Mark T.Star) op e = tt
multiplicative_may (S.Mark T.Slash) op e = tt
multiplicative_may (S.Mark T.Percent) op e = tt
multiplicative_may _ op e = cc

pub comparison_may : (s : Symbol) (op : BinOp) → comparison_of s ≡ Some op → May after_sum s
comparison_may (S.Mark T.Eq) op e = tt
comparison_may (S.Mark T.Ne) op e = tt
comparison_may (S.Mark T.Lt) op e = tt
comparison_may (S.Mark T.Le) op e = tt
comparison_may (S.Mark T.Gt) op e = tt
comparison_may (S.Mark T.Ge) op e = tt
comparison_may _ op e = cc

-- what may follow the larger may follow the smaller
product_atom : (s : Symbol) → May after_product s → May after_atom s
product_atom (S.Mark T.SquareOpen) h = absurd h
product_atom (S.Mark T.ParenOpen) h = absurd h
product_atom _ h = tt

sum_product : (s : Symbol) → May after_sum s → May after_product s
sum_product (S.Mark T.SquareOpen) h = absurd h
sum_product (S.Mark T.ParenOpen) h = absurd h
sum_product (S.Mark T.Star) h = absurd h
sum_product (S.Mark T.Slash) h = absurd h
sum_product (S.Mark T.Percent) h = absurd h
sum_product _ h = tt

expression_sum : (s : Symbol) → May after_expression s → May after_sum s
expression_sum (S.Mark T.SquareOpen) h = absurd h
expression_sum (S.Mark T.ParenOpen) h = absurd h
expression_sum (S.Mark T.Star) h = absurd h
expression_sum (S.Mark T.Slash) h = absurd h
expression_sum (S.Mark T.Percent) h = absurd h
expression_sum (S.Mark T.Plus) h = absurd h
expression_sum (S.Mark T.Minus) h = absurd h
expression_sum _ h = tt

widen : (may small : Symbol → Bool) → ((s : Symbol) → May may s → May small s) → (ts : List Tok) → Follows may ts → Follows small ts
widen may small f [] h = tt
widen may small f (t ∷ ts) h = f t.symbol h

pub product_to_atom : (ts : List Tok) → Follows after_product ts → Follows after_atom ts
product_to_atom ts h = widen after_product after_atom product_atom ts h

pub sum_to_product : (ts : List Tok) → Follows after_sum ts → Follows after_product ts
sum_to_product ts h = widen after_sum after_product sum_product ts h

pub expression_to_sum : (ts : List Tok) → Follows after_expression ts → Follows after_sum ts
expression_to_sum ts h = widen after_expression after_sum expression_sum ts h

-- an operator of a level may not follow that level
pub additive_ends : (s : Symbol) (op : BinOp) → additive_of s ≡ Some op → May after_sum s → ⊥
additive_ends (S.Mark T.Plus) op e h = h
additive_ends (S.Mark T.Minus) op e h = h
additive_ends _ op e h = cc

pub multiplicative_ends : (s : Symbol) (op : BinOp) → multiplicative_of s ≡ Some op → May after_product s → ⊥
multiplicative_ends (S.Mark T.Star) op e h = h
multiplicative_ends (S.Mark T.Slash) op e h = h
multiplicative_ends (S.Mark T.Percent) op e h = h
multiplicative_ends _ op e h = cc

pub comparison_ends : (s : Symbol) (op : BinOp) → comparison_of s ≡ Some op → May after_expression s → ⊥
comparison_ends (S.Mark T.Eq) op e h = h
comparison_ends (S.Mark T.Ne) op e h = h
comparison_ends (S.Mark T.Lt) op e h = h
comparison_ends (S.Mark T.Le) op e h = h
comparison_ends (S.Mark T.Gt) op e h = h
comparison_ends (S.Mark T.Ge) op e h = h
comparison_ends _ op e h = cc

-- what may follow an expression is no operator
pub record NoOperator (s : Symbol) : Type 0 where
  pub no_comparison : comparison_of s ≡ None
  pub no_additive : additive_of s ≡ None
  pub no_multiplicative : multiplicative_of s ≡ None

pub no_operator : (s : Symbol) → after_expression s ≡ true → NoOperator s
no_operator (S.Mark T.SquareOpen) e = cc
no_operator (S.Mark T.ParenOpen) e = cc
no_operator (S.Mark T.Star) e = cc
no_operator (S.Mark T.Slash) e = cc
no_operator (S.Mark T.Percent) e = cc
no_operator (S.Mark T.Plus) e = cc
no_operator (S.Mark T.Minus) e = cc
no_operator (S.Mark T.Eq) e = cc
no_operator (S.Mark T.Ne) e = cc
no_operator (S.Mark T.Lt) e = cc
no_operator (S.Mark T.Le) e = cc
no_operator (S.Mark T.Gt) e = cc
no_operator (S.Mark T.Ge) e = cc
no_operator _ e = record { no_comparison = refl; no_additive = refl; no_multiplicative = refl }

-- an operator is not the end
operator_is_token : (f : Symbol → Option BinOp) → f S.End ≡ None → (s : Symbol) (op : BinOp) → f s ≡ Some op → s ≡ S.End → ⊥
operator_is_token f n s op e h = let g : None ≡ Some op = sym n ∙ ap f (sym h) ∙ e in absurd cc

pub additive_is_token : (s : Symbol) (op : BinOp) → additive_of s ≡ Some op → s ≡ S.End → ⊥
additive_is_token s op e h = operator_is_token additive_of refl s op e h

pub multiplicative_is_token : (s : Symbol) (op : BinOp) → multiplicative_of s ≡ Some op → s ≡ S.End → ⊥
multiplicative_is_token s op e h = operator_is_token multiplicative_of refl s op e h

pub comparison_is_token : (s : Symbol) (op : BinOp) → comparison_of s ≡ Some op → s ≡ S.End → ⊥
comparison_is_token s op e h = operator_is_token comparison_of refl s op e h
