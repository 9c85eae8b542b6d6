-- Expressions, a constructor for each production. `ReadsSum e tokens rest`: the tokens begin with a sum that is e, and the
-- rest is behind it.
use Rattle.std.specs.Prelude.{◌≡◌, ℕ, List, ◌∷◌, Some}
use Rattle.kt_law.specs.declared.places.Place.{Place}
use Rattle.kt_law.specs.declared.operators.BinOp.{BinOp}
use Rattle.kt_prog.specs.declared.programs.Expr.{Expr, Num, Var, Elem, Bin}
use Rattle.kt_tokens.specs.declared.tokens.Mark.TheVariants as T
use Rattle.kt_tokens.specs.declared.tokens.Tok.{Tok}
use Rattle.kt_tokens.specs.Tokens.{◌·◌, named, numbered}
use Rattle.kt_read.specs.Operators.{comparison_of, additive_of, multiplicative_of, function_of}

mutual
  -- expr = sum [ ( "==" | "!=" | "<" | "<=" | ">" | ">=" ) sum ]
  pub data ReadsExpr : Expr → List Tok → List Tok → Type 0 where
    alone : {a : Expr} {ts us : List Tok} → ReadsSum a ts us → ReadsExpr a ts us
    compared : {a b : Expr} {op : BinOp} {t : Tok} {ts us vs : List Tok} →
        ReadsSum a ts (t ∷ us) → comparison_of t.symbol ≡ Some op → ReadsSum b us vs → ReadsExpr (Bin op a b) ts vs

  -- sum = product { ( "+" | "-" ) product }
  pub data ReadsSum : Expr → List Tok → List Tok → Type 0 where
    sum_of : {a e : Expr} {ts us vs : List Tok} → ReadsProduct a ts us → ReadsTerms a e us vs → ReadsSum e ts vs

  -- { ( "+" | "-" ) product } behind a, which make it e, grouped from the left
  pub data ReadsTerms : Expr → Expr → List Tok → List Tok → Type 0 where
    no_term : {a : Expr} {us : List Tok} → ReadsTerms a a us us
    one_term : {a b e : Expr} {op : BinOp} {t : Tok} {us vs ws : List Tok} →
        additive_of t.symbol ≡ Some op → ReadsProduct b us vs → ReadsTerms (Bin op a b) e vs ws → ReadsTerms a e (t ∷ us) ws

  -- product = atom { ( "*" | "/" | "%" ) atom }
  pub data ReadsProduct : Expr → List Tok → List Tok → Type 0 where
    product_of : {a e : Expr} {ts us vs : List Tok} → ReadsAtom a ts us → ReadsFactors a e us vs → ReadsProduct e ts vs

  -- { ( "*" | "/" | "%" ) atom } behind a, which make it e, grouped from the left
  pub data ReadsFactors : Expr → Expr → List Tok → List Tok → Type 0 where
    no_factor : {a : Expr} {us : List Tok} → ReadsFactors a a us us
    one_factor : {a b e : Expr} {op : BinOp} {t : Tok} {us vs ws : List Tok} →
        multiplicative_of t.symbol ≡ Some op → ReadsAtom b us vs → ReadsFactors (Bin op a b) e vs ws → ReadsFactors a e (t ∷ us) ws

  -- atom = NUMBER | NAME | NAME "[" expr "]" | fun "(" expr "," expr ")" | "(" expr ")"
  pub data ReadsAtom : Expr → List Tok → List Tok → Type 0 where
    number : {k : ℕ} {p : Place} {us : List Tok} → ReadsAtom (Num k) (numbered k p ∷ us) us
    name : {n : List ℕ} {p : Place} {us : List Tok} → ReadsAtom (Var n p) (named n p ∷ us) us
    element : {n : List ℕ} {p q r : Place} {e : Expr} {us vs : List Tok} →
        ReadsExpr e us (T.SquareClose · r ∷ vs) → ReadsAtom (Elem n p e) (named n p ∷ T.SquareOpen · q ∷ us) vs
    function : {n : List ℕ} {op : BinOp} {p q r s : Place} {a b : Expr} {us vs ws : List Tok} → function_of n ≡ Some op →
        ReadsExpr a us (T.Comma · r ∷ vs) → ReadsExpr b vs (T.ParenClose · s ∷ ws) →
        ReadsAtom (Bin op a b) (named n p ∷ T.ParenOpen · q ∷ us) ws
    -- the program keeps no parentheses
    group : {p q : Place} {e : Expr} {us vs : List Tok} →
        ReadsExpr e us (T.ParenClose · q ∷ vs) → ReadsAtom e (T.ParenOpen · p ∷ us) vs
