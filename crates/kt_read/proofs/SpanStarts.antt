-- At its first token an outermost expression begins for the gauge too.
use Rattle.std.proofs.Common.{ℕ, suc, List, Bool, true, false, refl, arith}
use Rattle.kt_prog.specs.declared.programs.Expr.{Expr}
use Rattle.kt_tokens.specs.declared.gauge.Gauge.{Gauge}
use Rattle.kt_tokens.specs.declared.tokens.Tok.{Tok}
use Rattle.kt_read.specs.Expressions.{ReadsExpr}
use Rattle.kt_read.specs.Statements.{op_word}
use Rattle.kt_read.specs.Outermost.{OuterArgs, last_arg, this_arg, later_arg, OuterStmt, let_value, set_value, element_index, store_value, fold_value, if_test, in_then, in_else, for_first, for_end, in_for, fork_length, fork_arg, fork_arg_behind_length, OuterBlock, in_stmt, OuterProgram, in_task, in_loop, in_main, behind_family, behind_task, behind_main}
use Rattle.kt_read.proofs.Spans.{Inside, apart, within, Cover, here, join, wider, free, forked, ended, Passed, passed}
use Rattle.kt_read.proofs.SpanExpressions.{expr_inside, arg_inside}
use Rattle.kt_read.proofs.SpanStatements.{Opens, opens_apart, opens_within, open_brace, expr_spanned, arg_spanned, block_cover, stmts_cover}
use Rattle.kt_read.proofs.SpanPrograms.{family_cover, task_cover, main_cover, maybe_params_cover}

abbrev pub Any : List Tok → List Tok → Type 0
Any ts us = Unit {0}

-- From the gauge g at ts on, an expression begins at xs, and its tokens end at ys.
pub data Reaches : Gauge → List Tok → List Tok → List Tok → Type 0 where
  reaches : {g : Gauge} {f : Bool} {b : ℕ} {ts xs ys : List Tok} → Cover Any g ts (within f b 0 b) xs → Inside b b xs b ys → Reaches g ts xs ys

before : {g h : Gauge} {ts us xs ys : List Tok} → Cover Any g ts h us → Reaches h us xs ys → Reaches g ts xs ys
before c (reaches d i) = reaches (join c d) i

any : {P : List Tok → List Tok → Type 0} {g h : Gauge} {ts us : List Tok} → Cover P g ts h us → Cover Any g ts h us
any c = wider (λ xs ys o. tt) c

at_expr : {g : Gauge} {f : Bool} {b : ℕ} {e : Expr} {ts xs ys : List Tok} → Cover Any g ts (within f b 0 b) xs → ReadsExpr e xs ys → Reaches g ts xs ys
at_expr {b} c r = reaches c (expr_inside b b (omega arith) r)

expr_passed : (f : Bool) (b : ℕ) {e : Expr} {ts us : List Tok} → ReadsExpr e ts us → Passed Any f b 0 b ts b us
expr_passed f b r = passed tt (expr_inside b b (omega arith) r)

args_reach : {b : ℕ} {ts xs ys : List Tok} → OuterArgs ts xs ys → Reaches (within true b 0 b) ts xs ys
args_reach {b} (last_arg a) = reaches here (arg_inside b b (omega arith) a)
args_reach {b} (this_arg a) = reaches here (arg_inside b b (omega arith) a)
args_reach (later_arg a o) = before (arg_spanned tt a (λ k. ended refl here)) (args_reach o)

mutual
  stmt_reaches : (n : ℕ) {ts xs ys : List Tok} → OuterStmt ts xs ys → Reaches (apart n) ts xs ys
  stmt_reaches n (let_value r) = at_expr (free (free (free here))) r
  stmt_reaches n (set_value r) = at_expr (free (free here)) r
  stmt_reaches n (element_index i) = at_expr (free (free here)) i
  stmt_reaches n (store_value i r) = at_expr (free (free (expr_spanned tt i (λ k. ended refl (free here))))) r
  stmt_reaches n (fold_value i (op_word w) r) = at_expr (free (free (expr_spanned tt i (λ k. ended refl (free (free here)))))) r
  stmt_reaches n (if_test e) = at_expr (free here) e
  stmt_reaches n (in_then e o) = before (free (expr_passed false n e).cover) (block_reaches n opens_within o)
  stmt_reaches n (in_else e b o) =
      before (free (expr_spanned tt e (λ k. join (any (block_cover n opens_within b)) (free here)))) (block_reaches n opens_apart o)
  stmt_reaches n (for_first r) = at_expr (free (free (free here))) r
  stmt_reaches n (for_end r s) = at_expr (free (free (free (expr_spanned tt r (λ k. ended refl here))))) s
  stmt_reaches n (in_for r s o) =
      before (free (free (free (expr_spanned tt r (λ k. ended refl (expr_passed false n s).cover))))) (block_reaches n opens_within o)
  stmt_reaches n (fork_length e) = at_expr (free (forked (forked here))) e
  stmt_reaches n (fork_arg o) = before (free (forked (forked here))) (args_reach o)
  stmt_reaches n (fork_arg_behind_length e o) =
      before (free (forked (forked (expr_spanned tt e (λ k. ended refl here))))) (args_reach o)

  block_reaches : (n : ℕ) {g : Gauge} {ts xs ys : List Tok} → Opens n g → OuterBlock ts xs ys → Reaches g ts xs ys
  block_reaches n b (in_stmt rs o) = before (open_brace b (any (stmts_cover (suc n) rs))) (stmt_reaches (suc n) o)

pub program_reaches : {ts xs ys : List Tok} → OuterProgram ts xs ys → Reaches (apart 0) ts xs ys
program_reaches (in_task ps o) = before (free (free (free (join (maybe_params_cover ps) (free here))))) (block_reaches 0 opens_apart o)
program_reaches (in_loop ps o) =
    before (free (free (free (free (free (join (maybe_params_cover ps) (free here))))))) (block_reaches 0 opens_apart o)
program_reaches (in_main o) = before (free here) (block_reaches 0 opens_apart o)
program_reaches (behind_family f o) = before (family_cover f) (program_reaches o)
program_reaches (behind_task t o) = before (any (task_cover t)) (program_reaches o)
program_reaches (behind_main m o) = before (any (main_cover m)) (program_reaches o)
