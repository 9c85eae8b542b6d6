-- Outermost expressions, and arguments of forks. `OuterStmt ts xs ys`: a statement begins at ts, and in it one of them goes
-- from xs to ys. The brackets and the `..` of an argument belong to it; the signs round an expression do not.
use Rattle.std.specs.Prelude.{ℕ, List, ◌∷◌}
use Rattle.kt_law.specs.declared.places.Place.{Place}
use Rattle.kt_law.specs.declared.operators.Op.{Op}
use Rattle.kt_prog.specs.declared.programs.Arg.{Arg}
use Rattle.kt_prog.specs.declared.programs.Expr.{Expr}
use Rattle.kt_prog.specs.declared.programs.Family.{Family}
use Rattle.kt_prog.specs.declared.programs.Main.{Main}
use Rattle.kt_prog.specs.declared.programs.Param.{Param}
use Rattle.kt_prog.specs.declared.programs.Stmt.{Stmt}
use Rattle.kt_prog.specs.declared.programs.Task.{Task}
use Rattle.kt_tokens.specs.declared.tokens.Mark.TheVariants as T
use Rattle.kt_tokens.specs.declared.tokens.Tok.{Tok}
use Rattle.kt_tokens.specs.Tokens.{◌·◌, named}
use Rattle.kt_read.specs.Expressions.{ReadsExpr}
use Rattle.kt_read.specs.Statements.{ReadsOp, ReadsArg, ReadsBlock, ReadsStmts}
use Rattle.kt_read.specs.Programs.{ReadsFamily, ReadsMaybeParams, ReadsTask, ReadsMain}

-- in arguments: the first, as the last or before a comma, or a later one
pub data OuterArgs : List Tok → List Tok → List Tok → Type 0 where
  last_arg : {a : Arg} {p : Place} {ts us : List Tok} →
      ReadsArg a ts (T.ParenClose · p ∷ us) → OuterArgs ts ts (T.ParenClose · p ∷ us)
  this_arg : {a : Arg} {p : Place} {ts us : List Tok} →
      ReadsArg a ts (T.Comma · p ∷ us) → OuterArgs ts ts (T.Comma · p ∷ us)
  later_arg : {a : Arg} {p : Place} {ts us xs ys : List Tok} →
      ReadsArg a ts (T.Comma · p ∷ us) → OuterArgs us xs ys → OuterArgs ts xs ys

mutual
  pub data OuterStmt : List Tok → List Tok → List Tok → Type 0 where
    let_value : {n : List ℕ} {p q r s : Place} {e : Expr} {ts us : List Tok} →
        ReadsExpr e ts (T.Semicolon · s ∷ us) →
        OuterStmt (T.Let · p ∷ named n q ∷ T.Becomes · r ∷ ts) ts (T.Semicolon · s ∷ us)
    set_value : {n : List ℕ} {p q r : Place} {e : Expr} {ts us : List Tok} →
        ReadsExpr e ts (T.Semicolon · r ∷ us) → OuterStmt (named n p ∷ T.Becomes · q ∷ ts) ts (T.Semicolon · r ∷ us)
    -- the index and the value of a write or a cumulation
    element_index : {n : List ℕ} {p q r : Place} {i : Expr} {ts us : List Tok} →
        ReadsExpr i ts (T.SquareClose · r ∷ us) → OuterStmt (named n p ∷ T.SquareOpen · q ∷ ts) ts (T.SquareClose · r ∷ us)
    store_value : {n : List ℕ} {p q r s t : Place} {i e : Expr} {ts us vs : List Tok} →
        ReadsExpr i ts (T.SquareClose · r ∷ T.Becomes · s ∷ us) → ReadsExpr e us (T.Semicolon · t ∷ vs) →
        OuterStmt (named n p ∷ T.SquareOpen · q ∷ ts) us (T.Semicolon · t ∷ vs)
    fold_value : {n : List ℕ} {p q r s t : Place} {op : Op} {i e : Expr} {ts us vs ws : List Tok} →
        ReadsExpr i ts (T.SquareClose · r ∷ us) → ReadsOp op us (T.Becomes · s ∷ vs) → ReadsExpr e vs (T.Semicolon · t ∷ ws) →
        OuterStmt (named n p ∷ T.SquareOpen · q ∷ ts) vs (T.Semicolon · t ∷ ws)
    if_test : {p q : Place} {e : Expr} {ts us : List Tok} →
        ReadsExpr e ts (T.BraceOpen · q ∷ us) → OuterStmt (T.If · p ∷ ts) ts (T.BraceOpen · q ∷ us)
    in_then : {p : Place} {e : Expr} {ts us xs ys : List Tok} →
        ReadsExpr e ts us → OuterBlock us xs ys → OuterStmt (T.If · p ∷ ts) xs ys
    in_else : {p q : Place} {e : Expr} {stmts : List Stmt} {ts us vs xs ys : List Tok} →
        ReadsExpr e ts us → ReadsBlock stmts us (T.Else · q ∷ vs) → OuterBlock vs xs ys → OuterStmt (T.If · p ∷ ts) xs ys
    -- the two bounds of a `for`
    for_first : {n : List ℕ} {p q r s : Place} {a : Expr} {ts us : List Tok} →
        ReadsExpr a ts (T.Dots · s ∷ us) → OuterStmt (T.For · p ∷ named n q ∷ T.In · r ∷ ts) ts (T.Dots · s ∷ us)
    for_end : {n : List ℕ} {p q r s t : Place} {a b : Expr} {ts us vs : List Tok} →
        ReadsExpr a ts (T.Dots · s ∷ us) → ReadsExpr b us (T.BraceOpen · t ∷ vs) →
        OuterStmt (T.For · p ∷ named n q ∷ T.In · r ∷ ts) us (T.BraceOpen · t ∷ vs)
    in_for : {n : List ℕ} {p q r s : Place} {a b : Expr} {ts us vs xs ys : List Tok} →
        ReadsExpr a ts (T.Dots · s ∷ us) → ReadsExpr b us vs → OuterBlock vs xs ys →
        OuterStmt (T.For · p ∷ named n q ∷ T.In · r ∷ ts) xs ys
    fork_length : {n : List ℕ} {p q r s : Place} {e : Expr} {ts us : List Tok} →
        ReadsExpr e ts (T.Semicolon · s ∷ us) →
        OuterStmt (T.Fork · p ∷ named n q ∷ T.ParenOpen · r ∷ ts) ts (T.Semicolon · s ∷ us)
    fork_arg : {n : List ℕ} {p q r : Place} {ts xs ys : List Tok} →
        OuterArgs ts xs ys → OuterStmt (T.Fork · p ∷ named n q ∷ T.ParenOpen · r ∷ ts) xs ys
    fork_arg_behind_length : {n : List ℕ} {p q r s : Place} {e : Expr} {ts us xs ys : List Tok} →
        ReadsExpr e ts (T.Semicolon · s ∷ us) → OuterArgs us xs ys →
        OuterStmt (T.Fork · p ∷ named n q ∷ T.ParenOpen · r ∷ ts) xs ys

  pub data OuterBlock : List Tok → List Tok → List Tok → Type 0 where
    in_stmt : {stmts : List Stmt} {p : Place} {ts us xs ys : List Tok} →
        ReadsStmts stmts ts us → OuterStmt us xs ys → OuterBlock (T.BraceOpen · p ∷ ts) xs ys

-- in a program
pub data OuterProgram : List Tok → List Tok → List Tok → Type 0 where
  in_task : {n : List ℕ} {params : List Param} {p q r s : Place} {ts us xs ys : List Tok} →
      ReadsMaybeParams params ts (T.ParenClose · s ∷ us) → OuterBlock us xs ys →
      OuterProgram (T.Task · p ∷ named n q ∷ T.ParenOpen · r ∷ ts) xs ys
  in_loop : {n i : List ℕ} {params : List Param} {p q r s t u : Place} {ts us xs ys : List Tok} →
      ReadsMaybeParams params ts (T.ParenClose · u ∷ us) → OuterBlock us xs ys →
      OuterProgram (T.Loop · p ∷ named n q ∷ T.ParenOpen · r ∷ named i s ∷ T.Semicolon · t ∷ ts) xs ys
  in_main : {p : Place} {ts xs ys : List Tok} → OuterBlock ts xs ys → OuterProgram (T.Main · p ∷ ts) xs ys
  behind_family : {f : Family} {ts us xs ys : List Tok} → ReadsFamily f ts us → OuterProgram us xs ys → OuterProgram ts xs ys
  behind_task : {t : Task} {ts us xs ys : List Tok} → ReadsTask t ts us → OuterProgram us xs ys → OuterProgram ts xs ys
  behind_main : {m : Main} {ts us xs ys : List Tok} → ReadsMain m ts us → OuterProgram us xs ys → OuterProgram ts xs ys
