-- The canonical text of an expression. It has parentheses exactly where the grammar needs them.
use Rattle.std.specs.Prelude.{ℕ, List, ◌++◌, Bool, true, false, codes, if◌then◌else◌}
use Rattle.std.specs.Fmt.{decimal}
use Rattle.kt_law.specs.declared.operators.BinOp.{BinOp}
use Rattle.kt_law.specs.declared.operators.BinOp.TheVariants as B
use Rattle.kt_prog.specs.declared.programs.Expr.{Expr, Expr-F, fold-Expr}
use Rattle.kt_prog.specs.declared.programs.Expr.TheOpen as E
use Rattle.kt_print.specs.declared.printing.operators.Level.{Level}
use Rattle.kt_print.specs.declared.printing.operators.Level.TheVariants.{Comparison, Sum, Product, Atom}

-- what is made by an operator; the functions make atoms
abbrev pub level_of : BinOp → Level
level_of B.Eq = Comparison
level_of B.Ne = Comparison
level_of B.Lt = Comparison
level_of B.Le = Comparison
level_of B.Gt = Comparison
level_of B.Ge = Comparison
level_of B.Add = Sum
level_of B.Sub = Sum
level_of B.Mul = Product
level_of B.Div = Product
level_of B.Rem = Product
level_of B.SatAdd = Atom
level_of B.Min = Atom
level_of B.Max = Atom
level_of B.And = Atom
level_of B.Or = Atom
level_of B.Xor = Atom

-- the sign of an infix operator, and the word of a function
abbrev pub sign_of : BinOp → List ℕ
sign_of B.Eq = codes "=="
sign_of B.Ne = codes "!="
sign_of B.Lt = codes "<"
sign_of B.Le = codes "<="
sign_of B.Gt = codes ">"
sign_of B.Ge = codes ">="
sign_of B.Add = codes "+"
sign_of B.Sub = codes "-"
sign_of B.Mul = codes "*"
sign_of B.Div = codes "/"
sign_of B.Rem = codes "%"
sign_of B.SatAdd = codes "satadd"
sign_of B.Min = codes "min"
sign_of B.Max = codes "max"
sign_of B.And = codes "and"
sign_of B.Or = codes "or"
sign_of B.Xor = codes "xor"

-- The left operand of an infix operator, whose own level comes first, is in parentheses: a comparison is one in any
-- operand, and a sum in that of a product.
abbrev pub left_grouped : Level → Level → Bool
left_grouped _ Comparison = true
left_grouped Product Sum = true
left_grouped _ _ = false

-- The right operand is too: besides, a sum in that of a sum and a product in that of a product, since these group from
-- the left.
abbrev pub right_grouped : Level → Level → Bool
right_grouped _ Comparison = true
right_grouped Sum Sum = true
right_grouped Product Sum = true
right_grouped Product Product = true
right_grouped _ _ = false

-- the text of an expression, and the level of what made it
pub record Printed : Type 0 where
  pub level : Level
  pub text : List ℕ

abbrev pub operand_text : Bool → List ℕ → List ℕ
operand_text grouped text = if grouped then codes "(" ++ (text ++ codes ")") else text

-- `min(E, E)` of a function, and an infix operator with one blank on each side
abbrev pub applied_text : Level → List ℕ → Printed → Printed → List ℕ
applied_text Atom word a b = word ++ (codes "(" ++ (a.text ++ (codes ", " ++ (b.text ++ codes ")"))))
applied_text level sign a b =
    operand_text (left_grouped level a.level) a.text ++
    (codes " " ++ (sign ++ (codes " " ++ operand_text (right_grouped level b.level) b.text)))

abbrev pub print_layer : Expr-F Printed → Printed
print_layer (E.Num n) = record { level = Atom; text = decimal n }
print_layer (E.Var name place) = record { level = Atom; text = name }
print_layer (E.Elem name place at) = record { level = Atom; text = name ++ (codes "[" ++ (at.text ++ codes "]")) }
print_layer (E.Bin op a b) = record { level = level_of op; text = applied_text (level_of op) (sign_of op) a b }

abbrev pub printed : Expr → Printed
printed = fold-Expr Printed print_layer

abbrev pub expr_text : Expr → List ℕ
expr_text e = (printed e).text
