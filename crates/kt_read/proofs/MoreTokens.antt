-- What is read does not depend on what stands behind it.
use Rattle.std.proofs.Common.{List, ◌++◌, Option, Bool, ℕ}
use Rattle.kt_law.specs.declared.operators.Op.{Op}
use Rattle.kt_law.specs.declared.modes.Mode.{Mode}
use Rattle.kt_prog.specs.declared.programs.Arg.{Arg}
use Rattle.kt_prog.specs.declared.programs.Expr.{Expr}
use Rattle.kt_prog.specs.declared.programs.Family.{Family}
use Rattle.kt_prog.specs.declared.programs.Main.{Main}
use Rattle.kt_prog.specs.declared.programs.Param.{Param}
use Rattle.kt_prog.specs.declared.programs.Program.{Program}
use Rattle.kt_prog.specs.declared.programs.Stmt.{Stmt}
use Rattle.kt_prog.specs.declared.programs.Task.{Task}
use Rattle.kt_tokens.specs.declared.tokens.Tok.{Tok}
use Rattle.kt_read.specs.Expressions.{ReadsExpr, alone, compared, ReadsSum, sum_of, ReadsTerms, no_term, one_term, ReadsProduct, product_of, ReadsFactors, no_factor, one_factor, ReadsAtom, number, name, element, function, group}
use Rattle.kt_read.specs.Statements.{ReadsOp, op_word, ReadsArg, value, span, ReadsArgs, one_arg, more_args, ReadsMaybeArgs, no_args, some_args, ReadsForked, without_length, with_length, ReadsBlock, block, ReadsStmts, no_stmt, one_stmt, ReadsElse, no_else, else_block, ReadsStmt, let_stmt, set_stmt, store_stmt, fold_stmt, if_stmt, for_stmt, fork_stmt}
use Rattle.kt_read.specs.Programs.{ReadsSize, single, range, ReadsFamily, family, ReadsDirect, direct, cumulative, ReadsPostponed, postponed, postponed_cumulative, ReadsParam, int, one_direct, one_postponed, many_postponed, ReadsParams, one_param, more_params, ReadsMaybeParams, no_params, some_params, ReadsTask, task, loop, ReadsMain, main, ReadsProgram, data_word, one_family, one_task, one_main, ReadsMaybe, left_out, written}

-- ---- expressions

mutual
  expr_more : (more : List Tok) {e : Expr} {ts us : List Tok} → ReadsExpr e ts us → ReadsExpr e (ts ++ more) (us ++ more)
  expr_more more (alone r) = alone (sum_more more r)
  expr_more more (compared r o s) = compared (sum_more more r) o (sum_more more s)

  sum_more : (more : List Tok) {e : Expr} {ts us : List Tok} → ReadsSum e ts us → ReadsSum e (ts ++ more) (us ++ more)
  sum_more more (sum_of r rs) = sum_of (product_more more r) (terms_more more rs)

  terms_more : (more : List Tok) {a e : Expr} {ts us : List Tok} → ReadsTerms a e ts us → ReadsTerms a e (ts ++ more) (us ++ more)
  terms_more more no_term = no_term
  terms_more more (one_term o r rs) = one_term o (product_more more r) (terms_more more rs)

  product_more : (more : List Tok) {e : Expr} {ts us : List Tok} → ReadsProduct e ts us → ReadsProduct e (ts ++ more) (us ++ more)
  product_more more (product_of r rs) = product_of (atom_more more r) (factors_more more rs)

  factors_more : (more : List Tok) {a e : Expr} {ts us : List Tok} → ReadsFactors a e ts us → ReadsFactors a e (ts ++ more) (us ++ more)
  factors_more more no_factor = no_factor
  factors_more more (one_factor o r rs) = one_factor o (atom_more more r) (factors_more more rs)

  atom_more : (more : List Tok) {e : Expr} {ts us : List Tok} → ReadsAtom e ts us → ReadsAtom e (ts ++ more) (us ++ more)
  atom_more more number = number
  atom_more more name = name
  atom_more more (element r) = element (expr_more more r)
  atom_more more (function w r s) = function w (expr_more more r) (expr_more more s)
  atom_more more (group r) = group (expr_more more r)

-- ---- statements

op_more : (more : List Tok) {op : Op} {ts us : List Tok} → ReadsOp op ts us → ReadsOp op (ts ++ more) (us ++ more)
op_more more (op_word w) = op_word w

arg_more : (more : List Tok) {a : Arg} {ts us : List Tok} → ReadsArg a ts us → ReadsArg a (ts ++ more) (us ++ more)
arg_more more (value r) = value (expr_more more r)
arg_more more (span r s) = span (expr_more more r) (expr_more more s)

args_more : (more : List Tok) {a : List Arg} {ts us : List Tok} → ReadsArgs a ts us → ReadsArgs a (ts ++ more) (us ++ more)
args_more more (one_arg r) = one_arg (arg_more more r)
args_more more (more_args r rs) = more_args (arg_more more r) (args_more more rs)

maybe_args_more : (more : List Tok) {a : List Arg} {ts us : List Tok} → ReadsMaybeArgs a ts us → ReadsMaybeArgs a (ts ++ more) (us ++ more)
maybe_args_more more no_args = no_args
maybe_args_more more (some_args r) = some_args (args_more more r)

forked_more : (more : List Tok) {count : Option Expr} {a : List Arg} {ts us : List Tok} → ReadsForked count a ts us → ReadsForked count a (ts ++ more) (us ++ more)
forked_more more (without_length r) = without_length (maybe_args_more more r)
forked_more more (with_length r rs) = with_length (expr_more more r) (maybe_args_more more rs)

mutual
  block_more : (more : List Tok) {a : List Stmt} {ts us : List Tok} → ReadsBlock a ts us → ReadsBlock a (ts ++ more) (us ++ more)
  block_more more (block r) = block (stmts_more more r)

  stmts_more : (more : List Tok) {a : List Stmt} {ts us : List Tok} → ReadsStmts a ts us → ReadsStmts a (ts ++ more) (us ++ more)
  stmts_more more no_stmt = no_stmt
  stmts_more more (one_stmt r rs) = one_stmt (stmt_more more r) (stmts_more more rs)

  else_more : (more : List Tok) {a : List Stmt} {ts us : List Tok} → ReadsElse a ts us → ReadsElse a (ts ++ more) (us ++ more)
  else_more more no_else = no_else
  else_more more (else_block r) = else_block (block_more more r)

  stmt_more : (more : List Tok) {s : Stmt} {ts us : List Tok} → ReadsStmt s ts us → ReadsStmt s (ts ++ more) (us ++ more)
  stmt_more more (let_stmt r) = let_stmt (expr_more more r)
  stmt_more more (set_stmt r) = set_stmt (expr_more more r)
  stmt_more more (store_stmt r s) = store_stmt (expr_more more r) (expr_more more s)
  stmt_more more (fold_stmt r o s) = fold_stmt (expr_more more r) (op_more more o) (expr_more more s)
  stmt_more more (if_stmt r a b) = if_stmt (expr_more more r) (block_more more a) (else_more more b)
  stmt_more more (for_stmt r s a) = for_stmt (expr_more more r) (expr_more more s) (block_more more a)
  stmt_more more (fork_stmt r) = fork_stmt (forked_more more r)

-- ---- declarations

size_more : (more : List Tok) {b : Bool} {m : ℕ} {ts us : List Tok} → ReadsSize b m ts us → ReadsSize b m (ts ++ more) (us ++ more)
size_more more single = single
size_more more range = range

maybe_more : (more : List Tok) {w : List ℕ} {b : Bool} {ts us : List Tok} → ReadsMaybe w b ts us → ReadsMaybe w b (ts ++ more) (us ++ more)
maybe_more more left_out = left_out
maybe_more more written = written

family_more : (more : List Tok) {f : Family} {ts us : List Tok} → ReadsFamily f ts us → ReadsFamily f (ts ++ more) (us ++ more)
family_more more (family r i o) = family (size_more more r) (maybe_more more i) (maybe_more more o)

direct_more : (more : List Tok) {m : Mode} {ts us : List Tok} → ReadsDirect m ts us → ReadsDirect m (ts ++ more) (us ++ more)
direct_more more (direct w) = direct w
direct_more more (cumulative o) = cumulative (op_more more o)

postponed_more : (more : List Tok) {m : Mode} {ts us : List Tok} → ReadsPostponed m ts us → ReadsPostponed m (ts ++ more) (us ++ more)
postponed_more more (postponed w) = postponed w
postponed_more more (postponed_cumulative o) = postponed_cumulative (op_more more o)

param_more : (more : List Tok) {a : Param} {ts us : List Tok} → ReadsParam a ts us → ReadsParam a (ts ++ more) (us ++ more)
param_more more int = int
param_more more (one_direct r) = one_direct (direct_more more r)
param_more more (one_postponed r) = one_postponed (postponed_more more r)
param_more more (many_postponed r) = many_postponed (postponed_more more r)

params_more : (more : List Tok) {a : List Param} {ts us : List Tok} → ReadsParams a ts us → ReadsParams a (ts ++ more) (us ++ more)
params_more more (one_param r) = one_param (param_more more r)
params_more more (more_params r rs) = more_params (param_more more r) (params_more more rs)

maybe_params_more : (more : List Tok) {a : List Param} {ts us : List Tok} → ReadsMaybeParams a ts us → ReadsMaybeParams a (ts ++ more) (us ++ more)
maybe_params_more more no_params = no_params
maybe_params_more more (some_params r) = some_params (params_more more r)

task_more : (more : List Tok) {t : Task} {ts us : List Tok} → ReadsTask t ts us → ReadsTask t (ts ++ more) (us ++ more)
task_more more (task r b) = task (maybe_params_more more r) (block_more more b)
task_more more (loop r b) = loop (maybe_params_more more r) (block_more more b)

main_more : (more : List Tok) {m : Main} {ts us : List Tok} → ReadsMain m ts us → ReadsMain m (ts ++ more) (us ++ more)
main_more more (main b) = main (block_more more b)

pub program_more : (more : List Tok) {p : Program} {ts us : List Tok} → ReadsProgram p ts us → ReadsProgram p (ts ++ more) (us ++ more)
program_more more data_word = data_word
program_more more (one_family r rs) = one_family (family_more more r) (program_more more rs)
program_more more (one_task r rs) = one_task (task_more more r) (program_more more rs)
program_more more (one_main r rs) = one_main (main_more more r) (program_more more rs)
