-- Statements one after another as their readers go, and what is left of them behind some of their tokens.
use Rattle.std.specs.Prelude.{ℕ, Bool, true, false, List, [], ◌∷◌, ◌++◌}
use Rattle.kt_law.specs.declared.operators.Op.{Op}
use Rattle.kt_law.specs.declared.places.Place.{Place}
use Rattle.kt_prog.specs.declared.programs.Expr.{Expr}
use Rattle.kt_prog.specs.declared.programs.Stmt.{Stmt}
use Rattle.kt_prog.specs.declared.programs.What.{Let, Set, Store, Fold, If, For, Fork}
use Rattle.kt_tokens.specs.declared.tokens.Mark.TheVariants as T
use Rattle.kt_tokens.specs.declared.tokens.Symbol.{Symbol}
use Rattle.kt_tokens.specs.declared.tokens.Symbol.TheVariants as S
use Rattle.kt_tokens.specs.declared.tokens.Tok.{Tok}
use Rattle.kt_tokens.specs.Reading.{Sign, AName}
use Rattle.kt_tokens.specs.Tokens.{◌·◌}
use Rattle.kt_read.specs.ArgumentResiduals.{Forked}
use Rattle.kt_read.specs.Expressions.{ReadsExpr}
use Rattle.kt_read.specs.Residuals.{Then, Done, Closing, ExprThen, NameThen}
use Rattle.kt_read.specs.Statements.{ReadsBlock, ReadsElse, ReadsOp, ReadsStmt}

-- an `else` would carry on an `if`
abbrev pub after_statement : Symbol → Bool
after_statement (S.Mark T.Else) = false
after_statement _ = true

abbrev pub LetStmt : Stmt → List Tok → List Tok → Type 0
LetStmt = Then (Sign T.Let) (λ p. Then (NameThen T.Becomes) (λ n. Then (ExprThen T.Semicolon) (λ e.
    Done (record { place = p; what = Let n.0 n.1 e }))))

abbrev pub IfStmt : Stmt → List Tok → List Tok → Type 0
IfStmt = Then (Sign T.If) (λ p. Then ReadsExpr (λ e. Then ReadsBlock (λ thens. Then ReadsElse (λ elses.
    Done (record { place = p; what = If e thens elses })))))

abbrev pub ForStmt : Stmt → List Tok → List Tok → Type 0
ForStmt = Then (Sign T.For) (λ p. Then (NameThen T.In) (λ n. Then (ExprThen T.Dots) (λ a. Then ReadsExpr (λ b. Then ReadsBlock (λ stmts.
    Done (record { place = p; what = For n.0 n.1 a b stmts }))))))

abbrev pub ForkStmt : Stmt → List Tok → List Tok → Type 0
ForkStmt = Then (Sign T.Fork) (λ p. Then (NameThen T.ParenOpen) (λ n. Then Forked (λ f. Then (Sign T.ParenClose) (λ _.
    Closing T.Semicolon (record { place = p; what = Fork n.0 n.1 f.0 f.1 })))))

-- `"=" expr ";"` or `op "=" expr ";"`, behind a name and an index
pub data AfterElement (n : List ℕ) (p : Place) (i : Expr) : Stmt → List Tok → List Tok → Type 0 where
  stores : {q r : Place} {e : Expr} {us vs : List Tok} →
      ReadsExpr e us (T.Semicolon · r ∷ vs) → AfterElement n p i (record { place = p; what = Store n p i e }) (T.Becomes · q ∷ us) vs
  folds : {q r : Place} {op : Op} {e : Expr} {us vs ws : List Tok} →
      ReadsOp op us (T.Becomes · q ∷ vs) → ReadsExpr e vs (T.Semicolon · r ∷ ws) → AfterElement n p i (record { place = p; what = Fold n p i op e }) us ws

-- behind a name that begins a statement
pub data AfterStmtName (n : List ℕ) (p : Place) : Stmt → List Tok → List Tok → Type 0 where
  sets : {q r : Place} {e : Expr} {us vs : List Tok} →
      ReadsExpr e us (T.Semicolon · r ∷ vs) → AfterStmtName n p (record { place = p; what = Set n p e }) (T.Becomes · q ∷ us) vs
  at_index : {q r : Place} {i : Expr} {s : Stmt} {us vs ws : List Tok} →
      ReadsExpr i us (T.SquareClose · r ∷ vs) → AfterElement n p i s vs ws → AfterStmtName n p s (T.SquareOpen · q ∷ us) ws

abbrev pub NamedStmt : Stmt → List Tok → List Tok → Type 0
NamedStmt = Then AName (λ n. AfterStmtName n.0 n.1)

-- the statements behind those that were read, and the bracket that closes their block
pub data MoreStmts : List Stmt → List Stmt → List Tok → List Tok → Type 0 where
  closed : {read : List Stmt} {p : Place} {us : List Tok} → MoreStmts read read (T.BraceClose · p ∷ us) us
  one_more_stmt : {read all : List Stmt} {s : Stmt} {ts us vs : List Tok} →
      ReadsStmt s ts us → MoreStmts (read ++ s ∷ []) all us vs → MoreStmts read all ts vs
