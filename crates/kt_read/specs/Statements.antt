-- Statements, a constructor for each production.
use Rattle.std.specs.Prelude.{◌≡◌, ℕ, List, [], ◌∷◌, Option, Some, None}
use Rattle.kt_law.specs.declared.places.Place.{Place}
use Rattle.kt_law.specs.declared.operators.Op.{Op}
use Rattle.kt_prog.specs.declared.programs.Arg.{Arg}
use Rattle.kt_prog.specs.declared.programs.ArgWhat.TheVariants.{Value, Span}
use Rattle.kt_prog.specs.declared.programs.Expr.{Expr}
use Rattle.kt_prog.specs.declared.programs.Stmt.{Stmt}
use Rattle.kt_prog.specs.declared.programs.What.{Let, Set, Store, Fold, If, For, Fork}
use Rattle.kt_tokens.specs.declared.tokens.Mark.TheVariants as T
use Rattle.kt_tokens.specs.declared.tokens.Tok.{Tok}
use Rattle.kt_tokens.specs.Tokens.{◌·◌, named}
use Rattle.kt_read.specs.Operators.{op_of}
use Rattle.kt_read.specs.Expressions.{ReadsExpr}

-- op = "add" | "min" | "max" | "and" | "or" | "xor"
pub data ReadsOp : Op → List Tok → List Tok → Type 0 where
  op_word : {n : List ℕ} {op : Op} {p : Place} {us : List Tok} → op_of n ≡ Some op → ReadsOp op (named n p ∷ us) us

-- arg = expr | NAME "[" expr ".." expr "]", at the place of its first token
pub data ReadsArg : Arg → List Tok → List Tok → Type 0 where
  value : {t : Tok} {e : Expr} {ts us : List Tok} →
      ReadsExpr e (t ∷ ts) us → ReadsArg (record { place = t.place; what = Value e }) (t ∷ ts) us
  span : {n : List ℕ} {p q r s : Place} {a b : Expr} {ts us vs : List Tok} →
      ReadsExpr a ts (T.Dots · r ∷ us) → ReadsExpr b us (T.SquareClose · s ∷ vs) →
      ReadsArg (record { place = p; what = Span n p a b }) (named n p ∷ T.SquareOpen · q ∷ ts) vs

-- args = arg { "," arg }
pub data ReadsArgs : List Arg → List Tok → List Tok → Type 0 where
  one_arg : {a : Arg} {ts us : List Tok} → ReadsArg a ts us → ReadsArgs (a ∷ []) ts us
  more_args : {a : Arg} {args : List Arg} {p : Place} {ts us vs : List Tok} →
      ReadsArg a ts (T.Comma · p ∷ us) → ReadsArgs args us vs → ReadsArgs (a ∷ args) ts vs

-- [ args ]
pub data ReadsMaybeArgs : List Arg → List Tok → List Tok → Type 0 where
  no_args : {us : List Tok} → ReadsMaybeArgs [] us us
  some_args : {args : List Arg} {ts us : List Tok} → ReadsArgs args ts us → ReadsMaybeArgs args ts us

-- [ forked ], where forked = args | expr ";" [ args ]; the expression is the length of a loop
pub data ReadsForked : Option Expr → List Arg → List Tok → List Tok → Type 0 where
  without_length : {args : List Arg} {ts us : List Tok} → ReadsMaybeArgs args ts us → ReadsForked None args ts us
  with_length : {e : Expr} {args : List Arg} {p : Place} {ts us vs : List Tok} →
      ReadsExpr e ts (T.Semicolon · p ∷ us) → ReadsMaybeArgs args us vs → ReadsForked (Some e) args ts vs

-- A statement has the place of its first token.
mutual
  -- block = "{" { stmt } "}"
  pub data ReadsBlock : List Stmt → List Tok → List Tok → Type 0 where
    block : {stmts : List Stmt} {p q : Place} {ts us : List Tok} →
        ReadsStmts stmts ts (T.BraceClose · q ∷ us) → ReadsBlock stmts (T.BraceOpen · p ∷ ts) us

  -- { stmt }
  pub data ReadsStmts : List Stmt → List Tok → List Tok → Type 0 where
    no_stmt : {us : List Tok} → ReadsStmts [] us us
    one_stmt : {s : Stmt} {stmts : List Stmt} {ts us vs : List Tok} →
        ReadsStmt s ts us → ReadsStmts stmts us vs → ReadsStmts (s ∷ stmts) ts vs

  -- [ "else" block ]; a missing one is an empty block
  pub data ReadsElse : List Stmt → List Tok → List Tok → Type 0 where
    no_else : {us : List Tok} → ReadsElse [] us us
    else_block : {stmts : List Stmt} {p : Place} {ts us : List Tok} → ReadsBlock stmts ts us → ReadsElse stmts (T.Else · p ∷ ts) us

  pub data ReadsStmt : Stmt → List Tok → List Tok → Type 0 where
    -- "let" NAME "=" expr ";"
    let_stmt : {n : List ℕ} {p q r s : Place} {e : Expr} {ts us : List Tok} →
        ReadsExpr e ts (T.Semicolon · s ∷ us) →
        ReadsStmt (record { place = p; what = Let n q e }) (T.Let · p ∷ named n q ∷ T.Becomes · r ∷ ts) us
    -- NAME "=" expr ";"
    set_stmt : {n : List ℕ} {p q r : Place} {e : Expr} {ts us : List Tok} →
        ReadsExpr e ts (T.Semicolon · r ∷ us) →
        ReadsStmt (record { place = p; what = Set n p e }) (named n p ∷ T.Becomes · q ∷ ts) us
    -- NAME "[" expr "]" "=" expr ";"
    store_stmt : {n : List ℕ} {p q r s t : Place} {i e : Expr} {ts us vs : List Tok} →
        ReadsExpr i ts (T.SquareClose · r ∷ T.Becomes · s ∷ us) → ReadsExpr e us (T.Semicolon · t ∷ vs) →
        ReadsStmt (record { place = p; what = Store n p i e }) (named n p ∷ T.SquareOpen · q ∷ ts) vs
    -- NAME "[" expr "]" op "=" expr ";"
    fold_stmt : {n : List ℕ} {p q r s t : Place} {op : Op} {i e : Expr} {ts us vs ws : List Tok} →
        ReadsExpr i ts (T.SquareClose · r ∷ us) → ReadsOp op us (T.Becomes · s ∷ vs) → ReadsExpr e vs (T.Semicolon · t ∷ ws) →
        ReadsStmt (record { place = p; what = Fold n p i op e }) (named n p ∷ T.SquareOpen · q ∷ ts) ws
    -- "if" expr block [ "else" block ]
    if_stmt : {p : Place} {e : Expr} {thens elses : List Stmt} {ts us vs ws : List Tok} →
        ReadsExpr e ts us → ReadsBlock thens us vs → ReadsElse elses vs ws →
        ReadsStmt (record { place = p; what = If e thens elses }) (T.If · p ∷ ts) ws
    -- "for" NAME "in" expr ".." expr block
    for_stmt : {n : List ℕ} {p q r s : Place} {a b : Expr} {stmts : List Stmt} {ts us vs ws : List Tok} →
        ReadsExpr a ts (T.Dots · s ∷ us) → ReadsExpr b us vs → ReadsBlock stmts vs ws →
        ReadsStmt (record { place = p; what = For n q a b stmts }) (T.For · p ∷ named n q ∷ T.In · r ∷ ts) ws
    -- "fork" NAME "(" [ forked ] ")" ";"
    fork_stmt : {n : List ℕ} {p q r s t : Place} {count : Option Expr} {args : List Arg} {ts us : List Tok} →
        ReadsForked count args ts (T.ParenClose · s ∷ T.Semicolon · t ∷ us) →
        ReadsStmt (record { place = p; what = Fork n q count args }) (T.Fork · p ∷ named n q ∷ T.ParenOpen · r ∷ ts) us
