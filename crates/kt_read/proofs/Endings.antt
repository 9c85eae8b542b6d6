-- Tokens that carry a part of an expression on. Where a part has ended, none of them is next.
use Rattle.std.proofs.Common.{◌≡◌, List, [], ◌∷◌, Option, Some, None, refl, ap, sym, subst, ◌∙◌}
use Rattle.kt_law.specs.declared.places.Place.{Place}
use Rattle.kt_law.specs.declared.operators.BinOp.{BinOp}
use Rattle.kt_tokens.specs.declared.tokens.Mark.TheVariants as T
use Rattle.kt_tokens.specs.declared.tokens.Symbol.{Symbol}
use Rattle.kt_tokens.specs.declared.tokens.Symbol.TheVariants as S
use Rattle.kt_tokens.specs.declared.tokens.Tok.{Tok}
use Rattle.kt_tokens.specs.Tokens.{◌·◌}
use Rattle.kt_read.specs.Operators.{comparison_of, additive_of, multiplicative_of}

-- the token is no bracket that makes an element or a call of the name before it
abbrev pub IsApart : Symbol → Type 0
IsApart (S.Mark T.SquareOpen) = ⊥
IsApart (S.Mark T.ParenOpen) = ⊥
IsApart _ = Unit {0}

abbrev pub HasNoBracket : List Tok → Type 0
HasNoBracket [] = Unit {0}
HasNoBracket (t ∷ ts) = IsApart t.symbol

-- the next token is no such operator
abbrev pub HasNo : (Symbol → Option BinOp) → List Tok → Type 0
HasNo operator [] = Unit {0}
HasNo operator (t ∷ ts) = operator t.symbol ≡ None

pub record EndsAtom (ts : List Tok) : Type 0 where
  pub no_bracket : HasNoBracket ts

pub record EndsProduct (ts : List Tok) : Type 0 where
  pub atom : EndsAtom ts
  pub no_factor : HasNo multiplicative_of ts

pub record EndsSum (ts : List Tok) : Type 0 where
  pub product : EndsProduct ts
  pub no_term : HasNo additive_of ts

pub record EndsExpr (ts : List Tok) : Type 0 where
  pub sum : EndsSum ts
  pub no_comparison : HasNo comparison_of ts

-- the next token is not this one
pub record IsNotAt (symbol : Symbol) (ts : List Tok) : Type 0 where
  pub never : {p : Place} {us : List Tok} → ts ≡ record { symbol = symbol; place = p } ∷ us → ⊥

-- ---- facts of lists and tables

pub same_head : {t u : Tok} {ts us : List Tok} → t ∷ ts ≡ u ∷ us → t ≡ u
same_head h = cc

pub same_tail : {t u : Tok} {ts us : List Tok} → t ∷ ts ≡ u ∷ us → ts ≡ us
same_tail h = cc

pub one_entry : {A : Type 0} {entry : Option A} {x y : A} → entry ≡ Some x → entry ≡ Some y → x ≡ y
one_entry h k = cc

pub no_entry : {A : Type 0} {entry : Option A} {x : A} → entry ≡ None → entry ≡ Some x → ⊥
no_entry h k = cc

-- the same operator, where the tokens are the same
pub one_operator : (operator : Symbol → Option BinOp) {t u : Tok} {x y : BinOp} {ts us : List Tok} → t ∷ ts ≡ u ∷ us →
    operator t.symbol ≡ Some x → operator u.symbol ≡ Some y → x ≡ y
one_operator operator h x y = one_entry (sym (ap (λ (v : Tok). operator v.symbol) (same_head h)) ∙ x) y

-- a part that has ended is not carried on
pub not_carried : (operator : Symbol → Option BinOp) {u : Tok} {x : BinOp} {ts us : List Tok} → HasNo operator ts → ts ≡ u ∷ us →
    operator u.symbol ≡ Some x → ⊥
not_carried operator bare h x = no_entry (subst (λ ts. HasNo operator ts) h bare) x

pub elsewhere : {symbol : Symbol} {t : Tok} {ts : List Tok} → (t.symbol ≡ symbol → ⊥) → IsNotAt symbol (t ∷ ts)
elsewhere differ = record { never = λ h. differ (ap (λ (t : Tok). t.symbol) (same_head h)) }

-- ---- an operator carries on no part of a higher level

factor_apart : (s : Symbol) {x : BinOp} → multiplicative_of s ≡ Some x → IsApart s
factor_apart (S.Mark T.SquareOpen) h = no_entry refl h
factor_apart (S.Mark T.ParenOpen) h = no_entry refl h
factor_apart _ h = tt

pub factor_ends : {t : Tok} {x : BinOp} {ts : List Tok} → multiplicative_of t.symbol ≡ Some x → EndsAtom (t ∷ ts)
factor_ends {t} h = record { no_bracket = factor_apart t.symbol h }

term_apart : (s : Symbol) {x : BinOp} → additive_of s ≡ Some x → IsApart s × (multiplicative_of s ≡ None)
term_apart (S.Mark T.Plus) h = (tt, refl)
term_apart (S.Mark T.Minus) h = (tt, refl)
term_apart _ h = absurd (no_entry refl h)

pub term_ends : {t : Tok} {x : BinOp} {ts : List Tok} → additive_of t.symbol ≡ Some x → EndsProduct (t ∷ ts)
term_ends {t} h =
    let apart = term_apart t.symbol h in record { atom = record { no_bracket = apart.0 }; no_factor = apart.1 }

comparison_apart : (s : Symbol) {x : BinOp} → comparison_of s ≡ Some x → IsApart s × (multiplicative_of s ≡ None) × (additive_of s ≡ None)
comparison_apart (S.Mark T.Eq) h = (tt, refl, refl)
comparison_apart (S.Mark T.Ne) h = (tt, refl, refl)
comparison_apart (S.Mark T.Lt) h = (tt, refl, refl)
comparison_apart (S.Mark T.Le) h = (tt, refl, refl)
comparison_apart (S.Mark T.Gt) h = (tt, refl, refl)
comparison_apart (S.Mark T.Ge) h = (tt, refl, refl)
comparison_apart _ h = absurd (no_entry refl h)

pub comparison_ends : {t : Tok} {x : BinOp} {ts : List Tok} → comparison_of t.symbol ≡ Some x → EndsSum (t ∷ ts)
comparison_ends {t} h =
    let apart = comparison_apart t.symbol h in
    record { product = record { atom = record { no_bracket = apart.0 }; no_factor = apart.1 }; no_term = apart.2 }

-- ---- signs at which an expression ends

pub at_square : {p : Place} {us : List Tok} → EndsExpr (T.SquareClose · p ∷ us)
at_square = record { sum = record { product = record { atom = record { no_bracket = tt }; no_factor = refl }; no_term = refl }; no_comparison = refl }

pub at_paren : {p : Place} {us : List Tok} → EndsExpr (T.ParenClose · p ∷ us)
at_paren = record { sum = record { product = record { atom = record { no_bracket = tt }; no_factor = refl }; no_term = refl }; no_comparison = refl }

pub at_comma : {p : Place} {us : List Tok} → EndsExpr (T.Comma · p ∷ us)
at_comma = record { sum = record { product = record { atom = record { no_bracket = tt }; no_factor = refl }; no_term = refl }; no_comparison = refl }

pub at_semicolon : {p : Place} {us : List Tok} → EndsExpr (T.Semicolon · p ∷ us)
at_semicolon = record { sum = record { product = record { atom = record { no_bracket = tt }; no_factor = refl }; no_term = refl }; no_comparison = refl }

pub at_dots : {p : Place} {us : List Tok} → EndsExpr (T.Dots · p ∷ us)
at_dots = record { sum = record { product = record { atom = record { no_bracket = tt }; no_factor = refl }; no_term = refl }; no_comparison = refl }

pub at_brace : {p : Place} {us : List Tok} → EndsExpr (T.BraceOpen · p ∷ us)
at_brace = record { sum = record { product = record { atom = record { no_bracket = tt }; no_factor = refl }; no_term = refl }; no_comparison = refl }
