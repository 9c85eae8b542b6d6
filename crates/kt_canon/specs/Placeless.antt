-- A program with every place set to one, so that programs can be compared but for places.
use Rattle.std.specs.Prelude.{◌≡◌, Option, Some, None, map}
use Rattle.kt_law.specs.declared.places.Place.{Place}
use Rattle.kt_prog.specs.declared.programs.Arg.{Arg}
use Rattle.kt_prog.specs.declared.programs.ArgWhat.{ArgWhat}
use Rattle.kt_prog.specs.declared.programs.ArgWhat.TheVariants.{Value, Span}
use Rattle.kt_prog.specs.declared.programs.Expr.{Expr, Expr-F, fold-Expr, Num, Var, Elem, Bin}
use Rattle.kt_prog.specs.declared.programs.Expr.TheOpen as E
use Rattle.kt_prog.specs.declared.programs.Family.{Family}
use Rattle.kt_prog.specs.declared.programs.Index.{Index}
use Rattle.kt_prog.specs.declared.programs.Main.{Main}
use Rattle.kt_prog.specs.declared.programs.Param.{Param}
use Rattle.kt_prog.specs.declared.programs.Program.{Program}
use Rattle.kt_prog.specs.declared.programs.Stmt.{Stmt, Stmt-F, fold-Stmt}
use Rattle.kt_prog.specs.declared.programs.Task.{Task}
use Rattle.kt_prog.specs.declared.programs.What.{What, What-F, fold-What, Let, Set, Store, Fold, If, For, Fork}
use Rattle.kt_prog.specs.declared.programs.What.TheOpen as W

abbrev pub nowhere : Place
nowhere = record { line = 0; column = 0 }

abbrev pub expr_layer : Expr-F Expr → Expr
expr_layer (E.Num n) = Num n
expr_layer (E.Var name place) = Var name nowhere
expr_layer (E.Elem name place at) = Elem name nowhere at
expr_layer (E.Bin op a b) = Bin op a b

abbrev pub placeless_expr : Expr → Expr
placeless_expr = fold-Expr Expr expr_layer

abbrev pub placeless_length : Option Expr → Option Expr
placeless_length None = None
placeless_length (Some e) = Some (placeless_expr e)

abbrev pub placeless_argument : ArgWhat → ArgWhat
placeless_argument (Value e) = Value (placeless_expr e)
placeless_argument (Span name place a b) = Span name nowhere (placeless_expr a) (placeless_expr b)

abbrev pub placeless_arg : Arg → Arg
placeless_arg a = record { place = nowhere; what = placeless_argument a.what }

abbrev pub what_layer : What-F What Stmt → What
what_layer (W.Let name place e) = Let name nowhere (placeless_expr e)
what_layer (W.Set name place e) = Set name nowhere (placeless_expr e)
what_layer (W.Store name place i e) = Store name nowhere (placeless_expr i) (placeless_expr e)
what_layer (W.Fold name place i op e) = Fold name nowhere (placeless_expr i) op (placeless_expr e)
what_layer (W.If test then_do else_do) = If (placeless_expr test) then_do else_do
what_layer (W.For name place a b body) = For name nowhere (placeless_expr a) (placeless_expr b) body
what_layer (W.Fork name place length args) = Fork name nowhere (placeless_length length) (map placeless_arg args)

abbrev pub stmt_layer : Stmt-F What Stmt → Stmt
stmt_layer x = record { place = nowhere; what = x.what }

abbrev pub placeless_what : What → What
placeless_what = fold-What What Stmt what_layer stmt_layer

abbrev pub placeless_stmt : Stmt → Stmt
placeless_stmt = fold-Stmt What Stmt what_layer stmt_layer

abbrev pub placeless_param : Param → Param
placeless_param p = record { place = nowhere; name = p.name; name_place = nowhere; sort = p.sort }

abbrev pub placeless_index : Option Index → Option Index
placeless_index None = None
placeless_index (Some i) = Some (record { name = i.name; place = nowhere })

abbrev pub placeless_family : Family → Family
placeless_family f = record f { place = nowhere }

abbrev pub placeless_task : Task → Task
placeless_task t = record {
  name = t.name;
  place = nowhere;
  index = placeless_index t.index;
  params = map placeless_param t.params;
  body = map placeless_stmt t.body;
}

abbrev pub placeless_main : Main → Main
placeless_main m = record { place = nowhere; body = map placeless_stmt m.body }

abbrev pub placeless : Program → Program
placeless p = record {
  families = map placeless_family p.families;
  tasks = map placeless_task p.tasks;
  mains = map placeless_main p.mains;
  end = nowhere;
}

-- two programs are the same but for places
abbrev pub SameButForPlaces : Program → Program → Type 0
SameButForPlaces p q = placeless p ≡ placeless q
