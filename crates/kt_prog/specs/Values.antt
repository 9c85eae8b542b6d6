-- What expressions do.
use Rattle.std.specs.Prelude.{ℕ, List, Option, Some, None, nat_lt}
use Rattle.kt_law.specs.Operators.{apply_of}
use Rattle.kt_law.specs.declared.faults.F.TheVariants.{F1, F2}
use Rattle.kt_prog.specs.Script.{Script, Step, ◌>>=◌, ◌>>◌, give, stop, load, tested}
use Rattle.kt_prog.specs.Locals.{Site, bound_of}
use Rattle.kt_prog.specs.Lookups.{number_in, object_in}
use Rattle.kt_prog.specs.declared.scope.Local.{Local}
use Rattle.kt_prog.specs.declared.programs.Expr.{Expr, Expr-F, fold-Expr}
use Rattle.kt_prog.specs.declared.programs.Expr.TheOpen as E

-- where an expression stands: what the names stand for, and the line of its statement
pub record View : Type 0 where
  pub site : Site
  pub locals : List Local
  pub line : ℕ

-- F2 where the element's number isn't below the object's number of elements
abbrev pub element_within : View → ℕ → ℕ → Step (Unit {0})
element_within v object i = tested (nat_lt i (v.site.widths object)) F2 v.line

-- F1 where the operator has no value
abbrev pub applied : Option ℕ → ℕ → Step ℕ
applied None line = stop F1 line
applied (Some x) line = give x

abbrev pub ExprMeaning : Type 0
ExprMeaning = View → Step ℕ

module _ (lost : Script → Script) where
  abbrev pub number_at : View → List ℕ → Step ℕ
  number_at v name = number_in lost (bound_of v.site v.locals name)

  abbrev pub object_at : View → List ℕ → Step ℕ
  object_at v name = object_in lost (bound_of v.site v.locals name)

  abbrev pub expr_step : Expr-F ExprMeaning → ExprMeaning
  expr_step (E.Num n) v = give n
  expr_step (E.Var name place) v = number_at v name
  -- the index, its test, and the load
  expr_step (E.Elem name place at) v = do
    o ← object_at v name
    i ← at v
    element_within v o i
    load o i
  -- the left operand, the right operand, then the operator
  expr_step (E.Bin op a b) v = do
    x ← a v
    y ← b v
    applied (apply_of op x y) v.line

  -- the value of an expression
  abbrev pub value_of : Expr → ExprMeaning
  value_of = fold-Expr ExprMeaning expr_step
