-- The gauge over a statement: it stands apart from expressions before and behind it, and what it calls too long in between is an
-- outermost expression of the statement.
use Rattle.std.proofs.Common.{ℕ, suc, List, ◌∷◌, Option, Bool, true, refl, arith}
use Rattle.kt_law.specs.declared.places.Place.{Place}
use Rattle.kt_prog.specs.declared.programs.Arg.{Arg}
use Rattle.kt_prog.specs.declared.programs.Expr.{Expr}
use Rattle.kt_prog.specs.declared.programs.Stmt.{Stmt}
use Rattle.kt_tokens.specs.declared.gauge.Gauge.{Gauge}
use Rattle.kt_tokens.specs.declared.tokens.Mark.TheVariants as T
use Rattle.kt_tokens.specs.declared.tokens.Tok.{Tok}
use Rattle.kt_tokens.specs.Tokens.{◌·◌, named}
use Rattle.kt_read.specs.Expressions.{ReadsExpr}
use Rattle.kt_read.specs.Statements.{op_word, ReadsArg, ReadsArgs, one_arg, more_args, ReadsMaybeArgs, no_args, some_args, ReadsForked, without_length, with_length, ReadsBlock, block, ReadsStmts, no_stmt, one_stmt, ReadsElse, no_else, else_block, ReadsStmt, let_stmt, set_stmt, store_stmt, fold_stmt, if_stmt, for_stmt, fork_stmt}
use Rattle.kt_read.specs.Outermost.{OuterArgs, last_arg, this_arg, later_arg, OuterStmt, let_value, set_value, element_index, store_value, fold_value, if_test, in_then, in_else, for_first, for_end, in_for, fork_length, fork_arg, fork_arg_behind_length, OuterBlock, in_stmt}
use Rattle.kt_read.proofs.Spans.{apart, within, Cover, here, join, wider, free, forked, ended, spanned}
use Rattle.kt_read.proofs.SpanExpressions.{expr_inside, arg_inside}

pub expr_spanned : {P : List Tok → List Tok → Type 0} {f : Bool} {b : ℕ} {h : Gauge} {e : Expr} {ts us vs : List Tok} → P ts us → ReadsExpr e ts us →
    ((k : ℕ) → Cover P (within f b k b) us h vs) → Cover P (within f b 0 b) ts h vs
expr_spanned {b} p r d = spanned p (expr_inside b b (omega arith) r) d

pub arg_spanned : {P : List Tok → List Tok → Type 0} {f : Bool} {b : ℕ} {h : Gauge} {a : Arg} {ts us vs : List Tok} → P ts us → ReadsArg a ts us →
    ((k : ℕ) → Cover P (within f b k b) us h vs) → Cover P (within f b 0 b) ts h vs
arg_spanned {b} p r d = spanned p (arg_inside b b (omega arith) r) d

-- ---- forks

-- a closing parenthesis is next
pub data Closes (vs : List Tok) : List Tok → Type 0 where
  closes : {p : Place} → Closes vs (T.ParenClose · p ∷ vs)

closed : {P : List Tok → List Tok → Type 0} {f : Bool} {n c : ℕ} {h : Gauge} {us vs ws : List Tok} → Closes vs us → Cover P (apart n) vs h ws →
    Cover P (within f (suc n) c (suc n)) us h ws
closed closes d = ended refl d

args_cover : (P : List Tok → List Tok → Type 0) {n : ℕ} {h : Gauge} {args : List Arg} {ts us vs ws : List Tok} → ReadsArgs args ts us →
    Closes vs us → ((xs ys : List Tok) → OuterArgs ts xs ys → P xs ys) → Cover P (apart n) vs h ws →
    Cover P (within true (suc n) 0 (suc n)) ts h ws
args_cover P (one_arg {ts} a) closes f d = arg_spanned (f ts _ (last_arg a)) a (λ k. ended refl d)
args_cover P (more_args {ts} a rs) c f d =
    arg_spanned (f ts _ (this_arg a)) a (λ k. ended refl (args_cover P rs c (λ xs ys o. f xs ys (later_arg a o)) d))

maybe_args_cover : (P : List Tok → List Tok → Type 0) {n : ℕ} {h : Gauge} {args : List Arg} {ts us vs ws : List Tok} → ReadsMaybeArgs args ts us →
    Closes vs us → ((xs ys : List Tok) → OuterArgs ts xs ys → P xs ys) → Cover P (apart n) vs h ws →
    Cover P (within true (suc n) 0 (suc n)) ts h ws
maybe_args_cover P no_args c f d = closed c d
maybe_args_cover P (some_args rs) c f d = args_cover P rs c f d

forked_cover : {name : List ℕ} {p q r : Place} {n : ℕ} {h : Gauge} {count : Option Expr} {args : List Arg} {ts us vs ws : List Tok} →
    ReadsForked count args ts us → Closes vs us → Cover (OuterStmt (T.Fork · p ∷ named name q ∷ T.ParenOpen · r ∷ ts)) (apart n) vs h ws →
    Cover (OuterStmt (T.Fork · p ∷ named name q ∷ T.ParenOpen · r ∷ ts)) (within true (suc n) 0 (suc n)) ts h ws
forked_cover (without_length rs) c d = maybe_args_cover _ rs c (λ xs ys o. fork_arg o) d
forked_cover (with_length e rs) c d =
    expr_spanned (fork_length e) e (λ k. ended refl (maybe_args_cover _ rs c (λ xs ys o. fork_arg_behind_length e o) d))

-- ---- blocks and statements

-- the gauge before a block
pub data Opens (n : ℕ) : Gauge → Type 0 where
  opens_apart : Opens n (apart n)
  opens_within : {f : Bool} {c : ℕ} → Opens n (within f n c n)

pub open_brace : {P : List Tok → List Tok → Type 0} {n : ℕ} {g h : Gauge} {p : Place} {ts us : List Tok} → Opens n g →
    Cover P (apart (suc n)) ts h us → Cover P g (T.BraceOpen · p ∷ ts) h us
open_brace opens_apart d = free d
open_brace opens_within d = ended refl d

-- an outermost expression of one of the statements from ts on
pub data InStmts : List Tok → List Tok → List Tok → Type 0 where
  in_stmts : {stmts : List Stmt} {ts us xs ys : List Tok} → ReadsStmts stmts ts us → OuterStmt us xs ys → InStmts ts xs ys

in_first : {ts : List Tok} (xs ys : List Tok) → OuterStmt ts xs ys → InStmts ts xs ys
in_first xs ys o = in_stmts no_stmt o

in_later : {s : Stmt} {ts us : List Tok} → ReadsStmt s ts us → (xs ys : List Tok) → InStmts us xs ys → InStmts ts xs ys
in_later r xs ys (in_stmts b o) = in_stmts (one_stmt r b) o

in_block : {p : Place} {ts : List Tok} (xs ys : List Tok) → InStmts ts xs ys → OuterBlock (T.BraceOpen · p ∷ ts) xs ys
in_block xs ys (in_stmts b o) = in_stmt b o

test_of : {p : Place} {e : Expr} {stmts : List Stmt} {ts us vs : List Tok} → ReadsExpr e ts us → ReadsBlock stmts us vs → OuterStmt (T.If · p ∷ ts) ts us
test_of r (block rs) = if_test r

end_of : {n : List ℕ} {p q r s : Place} {a b : Expr} {stmts : List Stmt} {ts us vs ws : List Tok} →
    ReadsExpr a ts (T.Dots · s ∷ us) → ReadsExpr b us vs → ReadsBlock stmts vs ws → OuterStmt (T.For · p ∷ named n q ∷ T.In · r ∷ ts) us vs
end_of r s (block rs) = for_end r s

mutual
  pub block_cover : (n : ℕ) {g : Gauge} {stmts : List Stmt} {ts us : List Tok} → Opens n g → ReadsBlock stmts ts us → Cover (OuterBlock ts) g ts (apart n) us
  block_cover n o (block rs) = open_brace o (join (wider in_block (stmts_cover (suc n) rs)) (free here))

  pub stmts_cover : (n : ℕ) {stmts : List Stmt} {ts us : List Tok} → ReadsStmts stmts ts us → Cover (InStmts ts) (apart n) ts (apart n) us
  stmts_cover n no_stmt = here
  stmts_cover n (one_stmt r rs) = join (wider in_first (stmt_cover n r)) (wider (in_later r) (stmts_cover n rs))

  else_cover : (n : ℕ) {p : Place} {e : Expr} {thens elses : List Stmt} {ts us vs ws : List Tok} → ReadsElse elses vs ws → ReadsExpr e ts us →
      ReadsBlock thens us vs → Cover (OuterStmt (T.If · p ∷ ts)) (apart n) vs (apart n) ws
  else_cover n no_else e b = here
  else_cover n (else_block c) e b = free (wider (λ xs ys o. in_else e b o) (block_cover n opens_apart c))

  stmt_cover : (n : ℕ) {s : Stmt} {ts us : List Tok} → ReadsStmt s ts us → Cover (OuterStmt ts) (apart n) ts (apart n) us
  stmt_cover n (let_stmt r) = free (free (free (expr_spanned (let_value r) r (λ k. ended refl here))))
  stmt_cover n (set_stmt r) = free (free (expr_spanned (set_value r) r (λ k. ended refl here)))
  stmt_cover n (store_stmt i r) =
      free (free (expr_spanned (element_index i) i (λ k. ended refl
      (free (expr_spanned (store_value i r) r (λ k. ended refl here))))))
  stmt_cover n (fold_stmt i (op_word w) r) =
      free (free (expr_spanned (element_index i) i (λ k. ended refl
      (free (free (expr_spanned (fold_value i (op_word w) r) r (λ k. ended refl here)))))))
  stmt_cover n (if_stmt e b c) =
      free (expr_spanned (test_of e b) e (λ k.
      join (wider (λ xs ys o. in_then e o) (block_cover n opens_within b)) (else_cover n c e b)))
  stmt_cover n (for_stmt r s b) =
      free (free (free (expr_spanned (for_first r) r (λ k. ended refl
      (expr_spanned (end_of r s b) s (λ k. wider (λ xs ys o. in_for r s o) (block_cover n opens_within b)))))))
  stmt_cover n (fork_stmt r) = free (forked (forked (forked_cover r closes (free here))))
