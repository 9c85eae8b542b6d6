-- What is left of a part behind some of its tokens.
use Rattle.std.specs.Prelude.{◌≡◌, ℕ, List, ◌∷◌, Some}
use Rattle.kt_law.specs.declared.places.Place.{Place}
use Rattle.kt_law.specs.declared.operators.BinOp.{BinOp}
use Rattle.kt_prog.specs.declared.programs.Expr.{Expr, Var, Elem, Bin}
use Rattle.kt_tokens.specs.declared.tokens.Mark.{Mark}
use Rattle.kt_tokens.specs.declared.tokens.Mark.TheVariants as T
use Rattle.kt_tokens.specs.declared.tokens.Tok.{Tok}
use Rattle.kt_tokens.specs.Reading.{Sign, AName}
use Rattle.kt_tokens.specs.Tokens.{◌·◌}
use Rattle.kt_read.specs.Expressions.{ReadsExpr, ReadsSum, ReadsTerms, ReadsFactors}
use Rattle.kt_read.specs.Operators.{comparison_of, function_of}

-- an X, and then what its value asks for
abbrev pub Then : {A B : Type 0} → (B → List Tok → List Tok → Type 0) → (B → A → List Tok → List Tok → Type 0) → A → List Tok → List Tok → Type 0
Then {A} {B} X K a ts us = (b : B) × (vs : List Tok) × X b ts vs × K b a vs us

-- nothing, and the value is this
abbrev pub Done : {A : Type 0} → A → A → List Tok → List Tok → Type 0
Done a b ts us = (b ≡ a) × (us ≡ ts)

-- a sign, and the value is this
abbrev pub Closing : {A : Type 0} → Mark → A → A → List Tok → List Tok → Type 0
Closing m a = Then (Sign m) (λ _. Done a)

-- an expression and a sign behind it
abbrev pub ExprThen : Mark → Expr → List Tok → List Tok → Type 0
ExprThen m = Then ReadsExpr (λ e. Closing m e)

-- a name and a sign behind it
abbrev pub NameThen : Mark → List ℕ × Place → List Tok → List Tok → Type 0
NameThen m = Then AName (λ n. Closing m n)

-- an atom behind its name
pub data AfterName (n : List ℕ) (p : Place) : Expr → List Tok → List Tok → Type 0 where
  bare : {us : List Tok} → AfterName n p (Var n p) us us
  square : {q r : Place} {e : Expr} {us vs : List Tok} →
      ReadsExpr e us (T.SquareClose · r ∷ vs) → AfterName n p (Elem n p e) (T.SquareOpen · q ∷ us) vs
  call : {op : BinOp} {q r s : Place} {a b : Expr} {us vs ws : List Tok} → function_of n ≡ Some op →
      ReadsExpr a us (T.Comma · r ∷ vs) → ReadsExpr b vs (T.ParenClose · s ∷ ws) → AfterName n p (Bin op a b) (T.ParenOpen · q ∷ us) ws

-- an expression behind its first sum
pub data AfterSum (a : Expr) : Expr → List Tok → List Tok → Type 0 where
  no_comparison : {us : List Tok} → AfterSum a a us us
  comparison : {b : Expr} {op : BinOp} {t : Tok} {us vs : List Tok} →
      comparison_of t.symbol ≡ Some op → ReadsSum b us vs → AfterSum a (Bin op a b) (t ∷ us) vs

-- an expression behind its first atom
abbrev pub AfterAtom : Expr → Expr → List Tok → List Tok → Type 0
AfterAtom a = Then (ReadsFactors a) (λ b. Then (ReadsTerms b) (λ c. AfterSum c))
