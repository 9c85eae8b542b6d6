-- What is left of the arguments of a fork behind some of their tokens.
use Rattle.std.specs.Prelude.{◌≡◌, ℕ, Bool, true, false, List, [], ◌∷◌, ◌++◌, Option, Some, None}
use Rattle.kt_law.specs.declared.places.Place.{Place}
use Rattle.kt_prog.specs.declared.programs.Arg.{Arg}
use Rattle.kt_prog.specs.declared.programs.ArgWhat.TheVariants.{Value, Span}
use Rattle.kt_prog.specs.declared.programs.Expr.{Expr, Elem}
use Rattle.kt_tokens.specs.declared.tokens.Mark.TheVariants as T
use Rattle.kt_tokens.specs.declared.tokens.Symbol.{Symbol}
use Rattle.kt_tokens.specs.declared.tokens.Symbol.TheVariants as S
use Rattle.kt_tokens.specs.declared.tokens.Tok.{Tok}
use Rattle.kt_tokens.specs.Tokens.{◌·◌}
use Rattle.kt_read.specs.Expressions.{ReadsExpr}
use Rattle.kt_read.specs.Residuals.{Then, AfterName, AfterAtom}
use Rattle.kt_read.specs.Statements.{ReadsArg, ReadsForked, ReadsMaybeArgs}

-- an argument behind `NAME "[" expr`
pub data AfterIndex (n : List ℕ) (p : Place) (i : Expr) : Arg → List Tok → List Tok → Type 0 where
  ranged : {q r : Place} {b : Expr} {us vs : List Tok} →
      ReadsExpr b us (T.SquareClose · r ∷ vs) → AfterIndex n p i (record { place = p; what = Span n p i b }) (T.Dots · q ∷ us) vs
  indexed : {q : Place} {e : Expr} {us vs : List Tok} →
      AfterAtom (Elem n p i) e us vs → AfterIndex n p i (record { place = p; what = Value e }) (T.SquareClose · q ∷ us) vs

-- an argument behind `NAME "["`
abbrev pub AfterSquare : List ℕ → Place → Arg → List Tok → List Tok → Type 0
AfterSquare n p = Then ReadsExpr (AfterIndex n p)

-- an argument behind its name
pub data AfterArgName (n : List ℕ) (p : Place) : Arg → List Tok → List Tok → Type 0 where
  in_square : {a : Arg} {q : Place} {us vs : List Tok} → AfterSquare n p a us vs → AfterArgName n p a (T.SquareOpen · q ∷ us) vs
  in_value : {a e : Expr} {ts us vs : List Tok} →
      AfterName n p a ts us → AfterAtom a e us vs → AfterArgName n p (record { place = p; what = Value e }) ts vs

-- what may follow the arguments
abbrev pub after_arguments : Symbol → Bool
after_arguments (S.Mark T.ParenClose) = true
after_arguments _ = false

-- the arguments behind those that were read
pub data MoreArgs : List Arg → List Arg → List Tok → List Tok → Type 0 where
  no_more : {read : List Arg} {us : List Tok} → MoreArgs read read us us
  one_more : {read all : List Arg} {a : Arg} {p : Place} {ts us vs : List Tok} →
      ReadsArg a ts us → MoreArgs (read ++ a ∷ []) all us vs → MoreArgs read all (T.Comma · p ∷ ts) vs

-- what stands in the brackets of a fork: the length of a loop, and the arguments
abbrev pub Forked : Option Expr × List Arg → List Tok → List Tok → Type 0
Forked f ts us = ReadsForked f.0 f.1 ts us

-- behind the first argument, which is the length where a `;` follows
pub data AfterFirst (first : Arg) : Option Expr × List Arg → List Tok → List Tok → Type 0 where
  argued : {args : List Arg} {ts us : List Tok} → MoreArgs (first ∷ []) args ts us → AfterFirst first (None, args) ts us
  lengthy : {e : Expr} {args : List Arg} {p : Place} {ts us : List Tok} →
      first.what ≡ Value e → ReadsMaybeArgs args ts us → AfterFirst first (Some e, args) (T.Semicolon · p ∷ ts) us
