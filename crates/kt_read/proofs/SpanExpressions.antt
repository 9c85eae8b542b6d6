-- The tokens of an expression, and of an argument, belong to it: the gauge sees none of them as its end.
use Rattle.std.proofs.Common.{◌≡◌, ℕ, suc, ◌<◌, ◌≤◌, List, ◌∷◌, Some, false, refl, arith}
use Rattle.kt_law.specs.declared.operators.BinOp.{BinOp}
use Rattle.kt_prog.specs.declared.programs.Arg.{Arg}
use Rattle.kt_prog.specs.declared.programs.Expr.{Expr}
use Rattle.kt_tokens.specs.declared.tokens.Mark.TheVariants as T
use Rattle.kt_tokens.specs.declared.tokens.Symbol.{Symbol}
use Rattle.kt_tokens.specs.declared.tokens.Symbol.TheVariants as S
use Rattle.kt_tokens.specs.declared.tokens.Tok.{Tok}
use Rattle.kt_tokens.specs.Gauge.{open_behind, is_end_sign}
use Rattle.kt_read.specs.Operators.{comparison_of, additive_of, multiplicative_of}
use Rattle.kt_read.specs.Expressions.{ReadsExpr, alone, compared, ReadsSum, sum_of, ReadsTerms, no_term, one_term, ReadsProduct, product_of, ReadsFactors, no_factor, one_factor, ReadsAtom, number, name, element, function, group}
use Rattle.kt_read.specs.Statements.{ReadsArg, value, span}
use Rattle.kt_read.proofs.Endings.{no_entry}
use Rattle.kt_read.proofs.Spans.{Inside, stay, on, inside_join, no_sign, deeper}

-- a token that no bracket counts and no end is
record Plain (s : Symbol) : Type 0 where
  sign : is_end_sign s ≡ false
  level : (n : ℕ) → open_behind n s ≡ n

comparison_plain : (s : Symbol) {x : BinOp} → comparison_of s ≡ Some x → Plain s
comparison_plain (S.Mark T.Eq) h = record { sign = refl; level = λ n. refl }
comparison_plain (S.Mark T.Ne) h = record { sign = refl; level = λ n. refl }
comparison_plain (S.Mark T.Lt) h = record { sign = refl; level = λ n. refl }
comparison_plain (S.Mark T.Le) h = record { sign = refl; level = λ n. refl }
comparison_plain (S.Mark T.Gt) h = record { sign = refl; level = λ n. refl }
comparison_plain (S.Mark T.Ge) h = record { sign = refl; level = λ n. refl }
comparison_plain _ h = absurd (no_entry refl h)

additive_plain : (s : Symbol) {x : BinOp} → additive_of s ≡ Some x → Plain s
additive_plain (S.Mark T.Plus) h = record { sign = refl; level = λ n. refl }
additive_plain (S.Mark T.Minus) h = record { sign = refl; level = λ n. refl }
additive_plain _ h = absurd (no_entry refl h)

multiplicative_plain : (s : Symbol) {x : BinOp} → multiplicative_of s ≡ Some x → Plain s
multiplicative_plain (S.Mark T.Star) h = record { sign = refl; level = λ n. refl }
multiplicative_plain (S.Mark T.Slash) h = record { sign = refl; level = λ n. refl }
multiplicative_plain (S.Mark T.Percent) h = record { sign = refl; level = λ n. refl }
multiplicative_plain _ h = absurd (no_entry refl h)

plain_on : {b n : ℕ} {t : Tok} {ts us : List Tok} → Plain t.symbol → Inside b n ts n us → Inside b n (t ∷ ts) n us
plain_on {b} {n} p i = on (no_sign _ p.sign) (rw (p.level n) i)

deep_on : {b n m : ℕ} {t : Tok} {ts us : List Tok} → b < n → Inside b (open_behind n t.symbol) ts m us → Inside b n (t ∷ ts) m us
deep_on {t} h i = on (deeper (is_end_sign t.symbol) h) i

mutual
  pub expr_inside : (b n : ℕ) {e : Expr} {ts us : List Tok} → b ≤ n → ReadsExpr e ts us → Inside b n ts n us
  expr_inside b n h (alone r) = sum_inside b n h r
  expr_inside b n h (compared {t} r o s) =
      inside_join (sum_inside b n h r) (plain_on (comparison_plain t.symbol o) (sum_inside b n h s))

  sum_inside : (b n : ℕ) {e : Expr} {ts us : List Tok} → b ≤ n → ReadsSum e ts us → Inside b n ts n us
  sum_inside b n h (sum_of r rs) = inside_join (product_inside b n h r) (terms_inside b n h rs)

  terms_inside : (b n : ℕ) {a e : Expr} {ts us : List Tok} → b ≤ n → ReadsTerms a e ts us → Inside b n ts n us
  terms_inside b n h no_term = stay
  terms_inside b n h (one_term {t} o r rs) =
      plain_on (additive_plain t.symbol o) (inside_join (product_inside b n h r) (terms_inside b n h rs))

  product_inside : (b n : ℕ) {e : Expr} {ts us : List Tok} → b ≤ n → ReadsProduct e ts us → Inside b n ts n us
  product_inside b n h (product_of r rs) = inside_join (atom_inside b n h r) (factors_inside b n h rs)

  factors_inside : (b n : ℕ) {a e : Expr} {ts us : List Tok} → b ≤ n → ReadsFactors a e ts us → Inside b n ts n us
  factors_inside b n h no_factor = stay
  factors_inside b n h (one_factor {t} o r rs) =
      plain_on (multiplicative_plain t.symbol o) (inside_join (atom_inside b n h r) (factors_inside b n h rs))

  atom_inside : (b n : ℕ) {e : Expr} {ts us : List Tok} → b ≤ n → ReadsAtom e ts us → Inside b n ts n us
  atom_inside b n h number = on (no_sign _ refl) stay
  atom_inside b n h name = on (no_sign _ refl) stay
  atom_inside b n h (element r) =
      on (no_sign _ refl) (on (no_sign _ refl) (inside_join (expr_inside b (suc n) (omega arith) r) (deep_on (omega arith) stay)))
  atom_inside b n h (function w r s) =
      on (no_sign _ refl) (on (no_sign _ refl)
      (inside_join (expr_inside b (suc n) (omega arith) r) (deep_on (omega arith)
      (inside_join (expr_inside b (suc n) (omega arith) s) (deep_on (omega arith) stay)))))
  atom_inside b n h (group r) =
      on (no_sign _ refl) (inside_join (expr_inside b (suc n) (omega arith) r) (deep_on (omega arith) stay))

pub arg_inside : (b n : ℕ) {a : Arg} {ts us : List Tok} → b ≤ n → ReadsArg a ts us → Inside b n ts n us
arg_inside b n h (value r) = expr_inside b n h r
arg_inside b n h (span r s) =
    on (no_sign _ refl) (on (no_sign _ refl)
    (inside_join (expr_inside b (suc n) (omega arith) r) (deep_on (omega arith)
    (inside_join (expr_inside b (suc n) (omega arith) s) (deep_on (omega arith) stay)))))
