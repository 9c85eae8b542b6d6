-- What the workers share may be shared by threads: the program, part by part, and the table.
use denote.RattleType.{RattleType}
use denote.Struct.Field as field
use denote.Param.Send.{IsSync, sendable}
use Rattle.std.proofs.Crossing as std
use Rattle.std.specs.contracts.option.Option as Option
use Rattle.sqlite_items.specs.contracts.items.Items as Items
use Rattle.sqlite_items.specs.contracts.boxed.Boxed as Boxed
use Rattle.kt_law.specs.contracts.operators.BinOp as BinOp
use Rattle.kt_law.specs.contracts.operators.Op as Op
use Rattle.kt_law.specs.contracts.places.Place as Place
use Rattle.kt_prog.specs.contracts.names.Name as Name
use Rattle.kt_rule.specs.contracts.tables.RunTable as RunTable
use Rattle.kt_rule.proofs.tables.RunTable.TheSendSync as table_crosses
use Rattle.kt_prog.specs.contracts.programs.Program as Program
use Rattle.kt_prog.specs.contracts.programs.Family as Family
use Rattle.kt_prog.specs.contracts.programs.Task as Task
use Rattle.kt_prog.specs.contracts.programs.Main as Main
use Rattle.kt_prog.specs.contracts.programs.Stmt as Stmt
use Rattle.kt_prog.specs.contracts.programs.Expr as Expr
use Rattle.kt_prog.specs.contracts.programs.Arg as Arg
use Rattle.kt_prog.specs.contracts.programs.ArgWhat as ArgWhat
use Rattle.kt_prog.specs.contracts.programs.Param as Param
use Rattle.kt_prog.specs.contracts.programs.Sort as Sort
use Rattle.kt_prog.proofs.programs.Expr.TheLaws.TheKnot as of_expr
use Rattle.kt_prog.proofs.programs.What.TheLaws.TheKnot as of_stmt

items : (h : RattleType) → IsSync h → IsSync (Items.the_row h)
items h s = let a = std.Vec-sync h s in search sendable depth 30

boxed : (h : RattleType) → IsSync h → IsSync (Boxed.the_row h)
boxed h s = let a = std.Box-sync h s in search sendable depth 30

items_field : (h : RattleType) → IsSync h → IsSync (Items.the_field h).row
items_field h s = let a = std.Vec-sync h s in search sendable depth 30

number : IsSync (field.u64-field).row
number = search sendable depth 30

name : IsSync (Name.the_field).row
name = search sendable depth 30

place : IsSync (Place.the_field).row
place = search sendable depth 30

operator : IsSync (BinOp.the_field).row
operator = search sendable depth 30

folder : IsSync (Op.the_field).row
folder = search sendable depth 30

expr : IsSync (Expr.the_field).row
expr = of_expr.sync-Expr number name place boxed operator

some_expr : IsSync (Option.the_field Expr.the_row).row
some_expr = let a = expr in search sendable depth 30

what : IsSync (ArgWhat.the_field).row
what = let a = expr in let b = name in let c = place in search sendable depth 30

arg : IsSync Arg.the_row
arg = let a = what in let b = place in search sendable depth 30

stmt : IsSync (Stmt.the_field).row
stmt = of_stmt.sync-Stmt name place expr folder items some_expr (items_field Arg.the_row arg)

stmt_row : IsSync Stmt.the_row
stmt_row = let a = stmt in search sendable depth 30

family : IsSync Family.the_row
family = let a = name in let b = place in search sendable depth 30

main : IsSync Main.the_row
main = let a = place in let b = items_field Stmt.the_row stmt_row in search sendable depth 30

sort : IsSync (Sort.the_field).row
sort = search sendable depth 30

param : IsSync Param.the_row
param = let a = name in let b = place in let c = sort in search sendable depth 30

task : IsSync Task.the_row
task = let a = name in let b = place in let c = items_field Param.the_row param in let d = items_field Stmt.the_row stmt_row in search sendable depth 30

pub program : IsSync Program.the_row
program = let a = items_field Family.the_row family in let b = items_field Task.the_row task in let c = items_field Main.the_row main in let d = place in
    search sendable depth 30

pub table : IsSync RunTable.the_row
table = table_crosses.the_sync
