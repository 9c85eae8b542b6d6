-- What is left of a statement, step by step.
use Rattle.std.proofs.Common.{◌≡◌, ◌≤◌, ℕ, ◌+◌, Bool, List, [], ◌∷◌, ◌++◌, arith, drop, length, take, refl, ap, sym, subst, ◌∙◌, append_assoc, Option, Some, None}
use Rattle.std.proofs.lemmas.List.{append-nil, length-append}
use Rattle.std.proofs.Math.Seq.{drop-append_seam, take-append_seam}
use Rattle.kt_law.specs.declared.operators.Op.{Op}
use Rattle.kt_law.specs.declared.places.Place.{Place}
use Rattle.kt_prog.specs.declared.programs.Arg.{Arg}
use Rattle.kt_prog.specs.declared.programs.Expr.{Expr, Num}
use Rattle.kt_prog.specs.declared.programs.Stmt.{Stmt}
use Rattle.kt_prog.specs.declared.programs.What.{What, Let, Set, Store, Fold, If, For, Fork}
use Rattle.kt_tokens.specs.declared.tokens.Mark.{Mark}
use Rattle.kt_tokens.specs.declared.tokens.Mark.TheVariants as T
use Rattle.kt_tokens.specs.declared.tokens.Symbol.{Symbol}
use Rattle.kt_tokens.specs.declared.tokens.Tok.{Tok}
use Rattle.kt_tokens.specs.Ahead.{Ahead, next_of, mark_of}
use Rattle.kt_tokens.specs.Reading.{any, Follows, Reads, Sign, sign, a_name}
use Rattle.kt_tokens.specs.Tokens.{◌·◌, named}
use Rattle.kt_read.specs.ArgumentResiduals.{Forked}
use Rattle.kt_read.specs.Expressions.{ReadsExpr}
use Rattle.kt_read.specs.Follows.{after_expression}
use Rattle.kt_read.specs.Residuals.{Then, Done, Closing, ExprThen, NameThen}
use Rattle.kt_read.specs.StatementResiduals.{after_statement, LetStmt, IfStmt, ForStmt, ForkStmt, AfterElement, stores, folds, AfterStmtName, sets, at_index, NamedStmt, MoreStmts, closed, one_more_stmt}
use Rattle.kt_read.specs.Statements.{ReadsOp, op_word, without_length, no_args, ReadsBlock, block, ReadsStmts, no_stmt, one_stmt, ReadsElse, no_else, else_block, ReadsStmt, let_stmt, set_stmt, store_stmt, fold_stmt, if_stmt, for_stmt, fork_stmt}
use Rattle.kt_read.proofs.ExpressionSteps.{may_not, closing_completes, expression_completes, expression_then_completes}
use Rattle.kt_read.proofs.Completing.{somewhere, done_completes, sign_completes}
use Rattle.kt_read.proofs.Still.{Still, Completes, here, is, done, then_completes}

abbrev pub stmt : Place → What → Stmt
stmt p w = record { place = p; what = w }

pub done_follows : {A : Type 0} (may : Symbol → Bool) (b a : A) (vs us : List Tok) → Done b a vs us → Follows may us → Follows may vs
done_follows may b a vs us d h = subst (λ us. Follows may us) d.1 h

-- ---- parts of statements complete

pub name_then_completes : {A : Type 0} (m : Mark) (K : List ℕ × Place → A → List Tok → List Tok → Type 0) → Completes (K ([], somewhere)) → Completes (Then (NameThen m) K)
name_then_completes m K k =
    then_completes (NameThen m) K ([], somewhere) (named [] somewhere ∷ m · somewhere ∷ [])
    (λ rest. (([], somewhere), m · somewhere ∷ rest, a_name, (somewhere, rest, sign, (refl, refl)))) k

pub block_completes : {A : Type 0} (K : List Stmt → A → List Tok → List Tok → Type 0) → Completes (K []) → Completes (Then ReadsBlock K)
block_completes K k = then_completes ReadsBlock K [] (T.BraceOpen · somewhere ∷ T.BraceClose · somewhere ∷ []) (λ rest. block no_stmt) k

pub else_completes : {A : Type 0} (K : List Stmt → A → List Tok → List Tok → Type 0) → Completes (K []) → Completes (Then ReadsElse K)
else_completes K k = then_completes ReadsElse K [] [] (λ rest. no_else) k

pub forked_completes : {A : Type 0} (K : Option Expr × List Arg → A → List Tok → List Tok → Type 0) → Completes (K (None, [])) → Completes (Then Forked K)
forked_completes K k = then_completes Forked K (None, []) [] (λ rest. without_length no_args) k

-- what completes a part completes what the part is a case of
completes_as : {A : Type 0} {Q R : A → List Tok → List Tok → Type 0} → ((a : A) (ts us : List Tok) → Q a ts us → R a ts us) → Completes Q → Completes R
completes_as f c = (c.0, c.1, λ rest. f c.0 (c.1 ++ rest) rest (c.2 rest))

-- ---- let

abbrev pub LetValue : Place → List ℕ × Place → Stmt → List Tok → List Tok → Type 0
LetValue p n = Then (ExprThen T.Semicolon) (λ e. Done (stmt p (Let n.0 n.1 e)))

pub let_value_completes : (p : Place) (n : List ℕ × Place) → Completes (LetValue p n)
let_value_completes p n = expression_then_completes T.Semicolon (λ e. Done (stmt p (Let n.0 n.1 e))) (done_completes (stmt p (Let n.0 n.1 (Num 0))))

pub let_completes : (p : Place) → Completes (Then (NameThen T.Becomes) (LetValue p))
let_completes p = name_then_completes T.Becomes (LetValue p) (let_value_completes p ([], somewhere))

-- ---- fork

abbrev pub ForkEnd : Place → List ℕ × Place → Option Expr × List Arg → Stmt → List Tok → List Tok → Type 0
ForkEnd p n f = Then (Sign T.ParenClose) (λ _. Closing T.Semicolon (stmt p (Fork n.0 n.1 f.0 f.1)))

abbrev pub ForkRest : Place → List ℕ × Place → Stmt → List Tok → List Tok → Type 0
ForkRest p n = Then Forked (ForkEnd p n)

pub fork_end_completes : (p : Place) (n : List ℕ × Place) (f : Option Expr × List Arg) → Completes (ForkEnd p n f)
fork_end_completes p n f =
    sign_completes T.ParenClose (λ _. Closing T.Semicolon (stmt p (Fork n.0 n.1 f.0 f.1))) (closing_completes T.Semicolon (stmt p (Fork n.0 n.1 f.0 f.1)))

pub fork_rest_completes : (p : Place) (n : List ℕ × Place) → Completes (ForkRest p n)
fork_rest_completes p n = forked_completes (ForkEnd p n) (fork_end_completes p n (None, []))

pub fork_completes : (p : Place) → Completes (Then (NameThen T.ParenOpen) (ForkRest p))
fork_completes p = name_then_completes T.ParenOpen (ForkRest p) (fork_rest_completes p ([], somewhere))

-- ---- if

abbrev pub IfElse : Place → Expr → List Stmt → Stmt → List Tok → List Tok → Type 0
IfElse p e thens = Then ReadsElse (λ elses. Done (stmt p (If e thens elses)))

abbrev pub IfBlocks : Place → Expr → Stmt → List Tok → List Tok → Type 0
IfBlocks p e = Then ReadsBlock (IfElse p e)

pub if_else_completes : (p : Place) (e : Expr) (thens : List Stmt) → Completes (IfElse p e thens)
if_else_completes p e thens = else_completes (λ elses. Done (stmt p (If e thens elses))) (done_completes (stmt p (If e thens [])))

pub if_blocks_complete : (p : Place) (e : Expr) → Completes (IfBlocks p e)
if_blocks_complete p e = block_completes (IfElse p e) (if_else_completes p e [])

pub if_completes : (p : Place) → Completes (Then ReadsExpr (IfBlocks p))
if_completes p = expression_completes (IfBlocks p) (if_blocks_complete p (Num 0))

-- a block may follow an expression
pub block_follows : (b : List Stmt) (vs us : List Tok) → ReadsBlock b vs us → Follows after_expression vs
block_follows b vs us (block r) = tt

-- [ "else" block ]

no_else_more : (b : List Stmt) (t : Tok) → (mark_of t.symbol ≡ Some T.Else → ⊥) → (more rest : List Tok) → ReadsElse b (t ∷ more) rest → Done [] b (t ∷ more) rest
no_else_more b t m more rest no_else = (refl, refl)
no_else_more b t m more rest (else_block r) = absurd (m refl)

pub no_else_read : (old : Ahead) → (mark_of (next_of old).symbol ≡ Some T.Else → ⊥) → Reads ReadsElse after_statement old old []
no_else_read old m = done (is (here old)
    (λ b more rest d. subst (λ x. ReadsElse x more rest) (sym d.0) (subst (λ us. ReadsElse [] more us) (sym d.1) no_else))
    (λ b more rest r h. no_else_more b (next_of old) m more rest r))

abbrev pub ElseBlock : List Stmt → List Tok → List Tok → Type 0
ElseBlock = Then (Sign T.Else) (λ _. ReadsBlock)

else_less : (b : List Stmt) (ts us : List Tok) → ElseBlock b ts us → ReadsElse b ts us
else_less b ts us (p, vs, sign, r) = else_block r

else_more : (b : List Stmt) (t : Tok) → mark_of t.symbol ≡ Some T.Else → (more rest : List Tok) → ReadsElse b (t ∷ more) rest → Follows after_statement rest → ElseBlock b (t ∷ more) rest
else_more b t m more rest no_else h = absurd (may_not after_statement T.Else refl t more m h)
else_more b t m more rest (else_block r) h = (_, _, sign, r)

pub else_here : (old : Ahead) → mark_of (next_of old).symbol ≡ Some T.Else → Still ReadsElse after_statement old old ElseBlock
else_here old m = is (here old) else_less (λ b more rest r h. else_more b (next_of old) m more rest r h)

pub block_end : Completes ReadsBlock
block_end = ([], T.BraceOpen · somewhere ∷ T.BraceClose · somewhere ∷ [], λ rest. block no_stmt)

-- ---- for

abbrev pub ForBody : Place → List ℕ × Place → Expr → Expr → Stmt → List Tok → List Tok → Type 0
ForBody p n a b = Then ReadsBlock (λ stmts. Done (stmt p (For n.0 n.1 a b stmts)))

abbrev pub ForEnd : Place → List ℕ × Place → Expr → Stmt → List Tok → List Tok → Type 0
ForEnd p n a = Then ReadsExpr (ForBody p n a)

abbrev pub ForBounds : Place → List ℕ × Place → Stmt → List Tok → List Tok → Type 0
ForBounds p n = Then (ExprThen T.Dots) (ForEnd p n)

pub for_body_completes : (p : Place) (n : List ℕ × Place) (a b : Expr) → Completes (ForBody p n a b)
for_body_completes p n a b = block_completes (λ stmts. Done (stmt p (For n.0 n.1 a b stmts))) (done_completes (stmt p (For n.0 n.1 a b [])))

pub for_end_completes : (p : Place) (n : List ℕ × Place) (a : Expr) → Completes (ForEnd p n a)
for_end_completes p n a = expression_completes (ForBody p n a) (for_body_completes p n a (Num 0))

pub for_bounds_complete : (p : Place) (n : List ℕ × Place) → Completes (ForBounds p n)
for_bounds_complete p n = expression_then_completes T.Dots (ForEnd p n) (for_end_completes p n (Num 0))

pub for_completes : (p : Place) → Completes (Then (NameThen T.In) (ForBounds p))
for_completes p = name_then_completes T.In (ForBounds p) (for_bounds_complete p ([], somewhere))

-- ---- behind an element

abbrev pub StoreLeft : List ℕ → Place → Expr → Stmt → List Tok → List Tok → Type 0
StoreLeft n p i = Then (Sign T.Becomes) (λ _. Then (ExprThen T.Semicolon) (λ e. Done (stmt p (Store n p i e))))

-- an expression and its sign, without the equations
expr_then : {m : Mark} {e : Expr} {ts us : List Tok} → ExprThen m e ts us → (q : Place) × ReadsExpr e ts (m · q ∷ us)
expr_then {m = m} {ts = ts} {us = us} (e, vs, r, (q, ws, sign, (f, g))) =
    (q, subst (λ x. ReadsExpr x ts (m · q ∷ us)) (sym f) (subst (λ zs. ReadsExpr e ts (m · q ∷ zs)) (sym g) r))

then_expr : {m : Mark} {e : Expr} {q : Place} {ts us : List Tok} → ReadsExpr e ts (m · q ∷ us) → ExprThen m e ts us
then_expr {us = us} r = (_, _, r, (_, us, sign, (refl, refl)))

store_less : (n : List ℕ) (p : Place) (i : Expr) (a : Stmt) (ts us : List Tok) → StoreLeft n p i a ts us → AfterElement n p i a ts us
store_less n p i a ts us (q, vs, sign, (e, ws, r, (f, g))) =
    let x = expr_then r in
    subst (λ y. AfterElement n p i y ts us) (sym f) (subst (λ zs. AfterElement n p i (stmt p (Store n p i e)) ts zs) (sym g) (stores x.1))

store_more : (n : List ℕ) (p : Place) (i : Expr) (a : Stmt) (t : Tok) → mark_of t.symbol ≡ Some T.Becomes → (more rest : List Tok) →
    AfterElement n p i a (t ∷ more) rest → StoreLeft n p i a (t ∷ more) rest
store_more n p i a t m more rest (stores {e = e} r) = (_, _, sign, (e, rest, then_expr r, (refl, refl)))
store_more n p i a t m more rest (folds (op_word w) r) = cc

pub store_here : (n : List ℕ) (p : Place) (i : Expr) (old : Ahead) → mark_of (next_of old).symbol ≡ Some T.Becomes → Still (AfterElement n p i) any old old (StoreLeft n p i)
store_here n p i old m = is (here old) (store_less n p i) (λ a more rest r h. store_more n p i a (next_of old) m more rest r)

pub store_completes : (n : List ℕ) (p : Place) (i : Expr) → Completes (Then (ExprThen T.Semicolon) (λ e. Done (stmt p (Store n p i e))))
store_completes n p i = expression_then_completes T.Semicolon (λ e. Done (stmt p (Store n p i e))) (done_completes (stmt p (Store n p i (Num 0))))

abbrev pub FoldValue : List ℕ → Place → Expr → Op → Stmt → List Tok → List Tok → Type 0
FoldValue n p i op = Then (ExprThen T.Semicolon) (λ e. Done (stmt p (Fold n p i op e)))

abbrev pub FoldBecomes : List ℕ → Place → Expr → Op → Stmt → List Tok → List Tok → Type 0
FoldBecomes n p i op = Then (Sign T.Becomes) (λ _. FoldValue n p i op)

fold_less : (n : List ℕ) (p : Place) (i : Expr) (a : Stmt) (ts us : List Tok) → Then ReadsOp (FoldBecomes n p i) a ts us → AfterElement n p i a ts us
fold_less n p i a ts us (op, vs, o, (q, ws, sign, (e, xs, r, (f, g)))) =
    let x = expr_then r in
    subst (λ y. AfterElement n p i y ts us) (sym f) (subst (λ zs. AfterElement n p i (stmt p (Fold n p i op e)) ts zs) (sym g) (folds o x.1))

fold_more : (n : List ℕ) (p : Place) (i : Expr) (a : Stmt) (t : Tok) → (mark_of t.symbol ≡ Some T.Becomes → ⊥) → (more rest : List Tok) →
    AfterElement n p i a (t ∷ more) rest → Then ReadsOp (FoldBecomes n p i) a (t ∷ more) rest
fold_more n p i a t m more rest (stores r) = absurd (m refl)
fold_more n p i a t m more rest (folds {op = op} {e = e} o r) = (op, _, o, (_, _, sign, (e, rest, then_expr r, (refl, refl))))

pub fold_here : (n : List ℕ) (p : Place) (i : Expr) (old : Ahead) → (mark_of (next_of old).symbol ≡ Some T.Becomes → ⊥) →
    Still (AfterElement n p i) any old old (Then ReadsOp (FoldBecomes n p i))
fold_here n p i old m = is (here old) (fold_less n p i) (λ a more rest r h. fold_more n p i a (next_of old) m more rest r)

pub fold_value_completes : (n : List ℕ) (p : Place) (i : Expr) (op : Op) → Completes (FoldValue n p i op)
fold_value_completes n p i op = expression_then_completes T.Semicolon (λ e. Done (stmt p (Fold n p i op e))) (done_completes (stmt p (Fold n p i op (Num 0))))

pub fold_completes : (n : List ℕ) (p : Place) (i : Expr) (op : Op) → Completes (FoldBecomes n p i op)
fold_completes n p i op = sign_completes T.Becomes (λ _. FoldValue n p i op) (fold_value_completes n p i op)

pub element_completes : (n : List ℕ) (p : Place) (i : Expr) → Completes (AfterElement n p i)
element_completes n p i =
    completes_as (store_less n p i)
    (sign_completes T.Becomes (λ _. Then (ExprThen T.Semicolon) (λ e. Done (stmt p (Store n p i e)))) (store_completes n p i))

-- ---- behind a name

abbrev pub SetLeft : List ℕ → Place → Stmt → List Tok → List Tok → Type 0
SetLeft n p = Then (Sign T.Becomes) (λ _. Then (ExprThen T.Semicolon) (λ e. Done (stmt p (Set n p e))))

set_less : (n : List ℕ) (p : Place) (a : Stmt) (ts us : List Tok) → SetLeft n p a ts us → AfterStmtName n p a ts us
set_less n p a ts us (q, vs, sign, (e, ws, r, (f, g))) =
    let x = expr_then r in
    subst (λ y. AfterStmtName n p y ts us) (sym f) (subst (λ zs. AfterStmtName n p (stmt p (Set n p e)) ts zs) (sym g) (sets x.1))

set_more : (n : List ℕ) (p : Place) (a : Stmt) (t : Tok) → mark_of t.symbol ≡ Some T.Becomes → (more rest : List Tok) →
    AfterStmtName n p a (t ∷ more) rest → SetLeft n p a (t ∷ more) rest
set_more n p a t m more rest (sets {e = e} r) = (_, _, sign, (e, rest, then_expr r, (refl, refl)))
set_more n p a t m more rest (at_index r k) = cc

pub set_here : (n : List ℕ) (p : Place) (old : Ahead) → mark_of (next_of old).symbol ≡ Some T.Becomes → Still (AfterStmtName n p) any old old (SetLeft n p)
set_here n p old m = is (here old) (set_less n p) (λ a more rest r h. set_more n p a (next_of old) m more rest r)

pub set_completes : (n : List ℕ) (p : Place) → Completes (Then (ExprThen T.Semicolon) (λ e. Done (stmt p (Set n p e))))
set_completes n p = expression_then_completes T.Semicolon (λ e. Done (stmt p (Set n p e))) (done_completes (stmt p (Set n p (Num 0))))

abbrev pub IndexLeft : List ℕ → Place → Stmt → List Tok → List Tok → Type 0
IndexLeft n p = Then (Sign T.SquareOpen) (λ _. Then (ExprThen T.SquareClose) (AfterElement n p))

index_less : (n : List ℕ) (p : Place) (a : Stmt) (ts us : List Tok) → IndexLeft n p a ts us → AfterStmtName n p a ts us
index_less n p a ts us (q, vs, sign, (i, ws, r, k)) = let x = expr_then r in at_index x.1 k

index_more : (n : List ℕ) (p : Place) (a : Stmt) (t : Tok) → (mark_of t.symbol ≡ Some T.Becomes → ⊥) → (more rest : List Tok) →
    AfterStmtName n p a (t ∷ more) rest → IndexLeft n p a (t ∷ more) rest
index_more n p a t m more rest (sets r) = absurd (m refl)
index_more n p a t m more rest (at_index {i = i} {vs = vs} r k) = (_, _, sign, (i, vs, then_expr r, k))

pub index_here : (n : List ℕ) (p : Place) (old : Ahead) → (mark_of (next_of old).symbol ≡ Some T.Becomes → ⊥) → Still (AfterStmtName n p) any old old (IndexLeft n p)
index_here n p old m = is (here old) (index_less n p) (λ a more rest r h. index_more n p a (next_of old) m more rest r)

pub index_completes : (n : List ℕ) (p : Place) → Completes (Then (ExprThen T.SquareClose) (AfterElement n p))
index_completes n p = expression_then_completes T.SquareClose (AfterElement n p) (element_completes n p (Num 0))

pub stmt_name_completes : (n : List ℕ × Place) → Completes (AfterStmtName n.0 n.1)
stmt_name_completes n =
    completes_as (set_less n.0 n.1)
    (sign_completes T.Becomes (λ _. Then (ExprThen T.Semicolon) (λ e. Done (stmt n.1 (Set n.0 n.1 e)))) (set_completes n.0 n.1))

-- ---- which statement it is

-- a name and its sign, without the equations
named_then : {m : Mark} {n : List ℕ × Place} {ts us : List Tok} → NameThen m n ts us → (q : Place) × (ts ≡ named n.0 n.1 ∷ m · q ∷ us)
named_then {m = m} {n = n} (x, vs, a_name, (q, ws, sign, (f, g))) =
    (q, ap (λ y. named y.0 y.1 ∷ m · q ∷ ws) (sym f) ∙ ap (λ zs. named n.0 n.1 ∷ m · q ∷ zs) (sym g))

then_named : {m : Mark} {n : List ℕ} {p q : Place} {us : List Tok} → NameThen m (n, p) (named n p ∷ m · q ∷ us) us
then_named {us = us} = (_, _, a_name, (_, us, sign, (refl, refl)))

let_less : (a : Stmt) (ts us : List Tok) → LetStmt a ts us → ReadsStmt a ts us
let_less a ts us (p, vs, sign, (n, ws, x, (e, zs, r, (u, v)))) =
    let y = named_then x in
    let z = expr_then r in
    let s : ReadsStmt (stmt p (Let n.0 n.1 e)) ts zs = subst (λ xs. ReadsStmt (stmt p (Let n.0 n.1 e)) (T.Let · p ∷ xs) zs) (sym y.1) (let_stmt z.1) in
    subst (λ b. ReadsStmt b ts us) (sym u) (subst (λ xs. ReadsStmt (stmt p (Let n.0 n.1 e)) ts xs) (sym v) s)

let_more : (a : Stmt) (t : Tok) → mark_of t.symbol ≡ Some T.Let → (more rest : List Tok) → ReadsStmt a (t ∷ more) rest → LetStmt a (t ∷ more) rest
let_more a t m more rest (let_stmt {e = e} r) = (_, _, sign, (_, _, then_named, (e, rest, then_expr r, (refl, refl))))
let_more a t m more rest (set_stmt r) = cc
let_more a t m more rest (store_stmt r s) = cc
let_more a t m more rest (fold_stmt r o s) = cc
let_more a t m more rest (if_stmt r s u) = cc
let_more a t m more rest (for_stmt r s u) = cc
let_more a t m more rest (fork_stmt r) = cc

pub let_here : (old : Ahead) → mark_of (next_of old).symbol ≡ Some T.Let → Still ReadsStmt after_statement old old LetStmt
let_here old m = is (here old) let_less (λ a more rest r h. let_more a (next_of old) m more rest r)

if_less : (a : Stmt) (ts us : List Tok) → IfStmt a ts us → ReadsStmt a ts us
if_less a ts us (p, vs, sign, (e, ws, r, (thens, xs, b, (elses, ys, c, (u, v))))) =
    subst (λ s. ReadsStmt s ts us) (sym u) (subst (λ zs. ReadsStmt (stmt p (If e thens elses)) ts zs) (sym v) (if_stmt r b c))

if_more : (a : Stmt) (t : Tok) → mark_of t.symbol ≡ Some T.If → (more rest : List Tok) → ReadsStmt a (t ∷ more) rest → IfStmt a (t ∷ more) rest
if_more a t m more rest (let_stmt r) = cc
if_more a t m more rest (set_stmt r) = cc
if_more a t m more rest (store_stmt r s) = cc
if_more a t m more rest (fold_stmt r o s) = cc
if_more a t m more rest (if_stmt {e = e} {thens = thens} {elses = elses} {us = us} {vs = vs} r s u) = (_, _, sign, (e, us, r, (thens, vs, s, (elses, rest, u, (refl, refl)))))
if_more a t m more rest (for_stmt r s u) = cc
if_more a t m more rest (fork_stmt r) = cc

pub if_here : (old : Ahead) → mark_of (next_of old).symbol ≡ Some T.If → Still ReadsStmt after_statement old old IfStmt
if_here old m = is (here old) if_less (λ a more rest r h. if_more a (next_of old) m more rest r)

for_less : (a : Stmt) (ts us : List Tok) → ForStmt a ts us → ReadsStmt a ts us
for_less a ts us (p, vs, sign, (n, ws, x, (e, xs, r, (b, ys, s, (body, zs, k, (u, v)))))) =
    let y = named_then x in
    let z = expr_then r in
    let f : ReadsStmt (stmt p (For n.0 n.1 e b body)) ts zs = subst (λ xs. ReadsStmt (stmt p (For n.0 n.1 e b body)) (T.For · p ∷ xs) zs) (sym y.1) (for_stmt z.1 s k) in
    subst (λ b. ReadsStmt b ts us) (sym u) (subst (λ xs. ReadsStmt (stmt p (For n.0 n.1 e b body)) ts xs) (sym v) f)

for_more : (a : Stmt) (t : Tok) → mark_of t.symbol ≡ Some T.For → (more rest : List Tok) → ReadsStmt a (t ∷ more) rest → ForStmt a (t ∷ more) rest
for_more a t m more rest (let_stmt r) = cc
for_more a t m more rest (set_stmt r) = cc
for_more a t m more rest (store_stmt r s) = cc
for_more a t m more rest (fold_stmt r o s) = cc
for_more a t m more rest (if_stmt r s u) = cc
for_more a t m more rest (for_stmt {a = x} {b = b} {stmts = body} {us = us} {vs = vs} r s u) =
    (_, _, sign, (_, _, then_named, (x, us, then_expr r, (b, vs, s, (body, rest, u, (refl, refl))))))
for_more a t m more rest (fork_stmt r) = cc

pub for_here : (old : Ahead) → mark_of (next_of old).symbol ≡ Some T.For → Still ReadsStmt after_statement old old ForStmt
for_here old m = is (here old) for_less (λ a more rest r h. for_more a (next_of old) m more rest r)

fork_less : (a : Stmt) (ts us : List Tok) → ForkStmt a ts us → ReadsStmt a ts us
fork_less a ts us (p, vs, sign, (n, ws, x, (f, xs, r, (q, ys, sign, (o, zs, sign, (u, v)))))) =
    let y = named_then x in
    let s : ReadsStmt (stmt p (Fork n.0 n.1 f.0 f.1)) ts zs = subst (λ xs. ReadsStmt (stmt p (Fork n.0 n.1 f.0 f.1)) (T.Fork · p ∷ xs) zs) (sym y.1) (fork_stmt r) in
    subst (λ b. ReadsStmt b ts us) (sym u) (subst (λ xs. ReadsStmt (stmt p (Fork n.0 n.1 f.0 f.1)) ts xs) (sym v) s)

fork_more : (a : Stmt) (t : Tok) → mark_of t.symbol ≡ Some T.Fork → (more rest : List Tok) → ReadsStmt a (t ∷ more) rest → ForkStmt a (t ∷ more) rest
fork_more a t m more rest (let_stmt r) = cc
fork_more a t m more rest (set_stmt r) = cc
fork_more a t m more rest (store_stmt r s) = cc
fork_more a t m more rest (fold_stmt r o s) = cc
fork_more a t m more rest (if_stmt r s u) = cc
fork_more a t m more rest (for_stmt r s u) = cc
fork_more a t m more rest (fork_stmt {count = l} {args = args} r) = (_, _, sign, (_, _, then_named, ((l, args), _, r, (_, _, sign, (_, rest, sign, (refl, refl))))))

pub fork_here : (old : Ahead) → mark_of (next_of old).symbol ≡ Some T.Fork → Still ReadsStmt after_statement old old ForkStmt
fork_here old m = is (here old) fork_less (λ a more rest r h. fork_more a (next_of old) m more rest r)

named_less : (a : Stmt) (ts us : List Tok) → NamedStmt a ts us → ReadsStmt a ts us
named_less a ts us ((n, p), vs, a_name, sets r) = set_stmt r
named_less a ts us ((n, p), vs, a_name, at_index r (stores s)) = store_stmt r s
named_less a ts us ((n, p), vs, a_name, at_index r (folds o s)) = fold_stmt r o s

-- no statement of another kind is next
pub record NoWord (t : Tok) : Type 0 where
  pub no_let : mark_of t.symbol ≡ Some T.Let → ⊥
  pub no_if : mark_of t.symbol ≡ Some T.If → ⊥
  pub no_for : mark_of t.symbol ≡ Some T.For → ⊥
  pub no_fork : mark_of t.symbol ≡ Some T.Fork → ⊥

named_more : (a : Stmt) (t : Tok) → NoWord t → (more rest : List Tok) → ReadsStmt a (t ∷ more) rest → NamedStmt a (t ∷ more) rest
named_more a t m more rest (let_stmt r) = absurd (m.no_let refl)
named_more a t m more rest (set_stmt r) = (_, _, a_name, sets r)
named_more a t m more rest (store_stmt r s) = (_, _, a_name, at_index r (stores s))
named_more a t m more rest (fold_stmt r o s) = (_, _, a_name, at_index r (folds o s))
named_more a t m more rest (if_stmt r s u) = absurd (m.no_if refl)
named_more a t m more rest (for_stmt r s u) = absurd (m.no_for refl)
named_more a t m more rest (fork_stmt r) = absurd (m.no_fork refl)

pub named_here : (old : Ahead) → NoWord (next_of old) → Still ReadsStmt after_statement old old NamedStmt
named_here old m = is (here old) named_less (λ a more rest r h. named_more a (next_of old) m more rest r)

-- ---- blocks

stmt_follows : (s : Stmt) (ts us : List Tok) → ReadsStmt s ts us → Follows after_statement ts
stmt_follows s ts us (let_stmt r) = tt
stmt_follows s ts us (set_stmt r) = tt
stmt_follows s ts us (store_stmt r x) = tt
stmt_follows s ts us (fold_stmt r o x) = tt
stmt_follows s ts us (if_stmt r x y) = tt
stmt_follows s ts us (for_stmt r x y) = tt
stmt_follows s ts us (fork_stmt r) = tt

pub more_follow : (read all : List Stmt) (ts us : List Tok) → MoreStmts read all ts us → Follows after_statement ts
more_follow read all ts us closed = tt
more_follow read all ts us (one_more_stmt {s = s} {us = vs} r k) = stmt_follows s ts vs r

-- a bracket that closes begins no statement
closed_stmt : (s : Stmt) (t : Tok) → mark_of t.symbol ≡ Some T.BraceClose → (more us : List Tok) → ReadsStmt s (t ∷ more) us → ⊥
closed_stmt s t m more us (let_stmt r) = cc
closed_stmt s t m more us (set_stmt r) = cc
closed_stmt s t m more us (store_stmt r x) = cc
closed_stmt s t m more us (fold_stmt r o x) = cc
closed_stmt s t m more us (if_stmt r x y) = cc
closed_stmt s t m more us (for_stmt r x y) = cc
closed_stmt s t m more us (fork_stmt r) = cc

pub no_tokens : (s : Stmt) → ReadsStmt s [] [] → ⊥
no_tokens s r = elim r [ ]

to_more : (read : List Stmt) {stmts : List Stmt} {ts ws us : List Tok} {q : Place} → ReadsStmts stmts ts ws → ws ≡ T.BraceClose · q ∷ us → MoreStmts read (read ++ stmts) ts us
to_more read {us = us} {q = q} no_stmt e =
    subst (λ ts. MoreStmts read (read ++ []) ts us) (sym e) (subst (λ x. MoreStmts read x (T.BraceClose · q ∷ us) us) (sym (append-nil read)) closed)
to_more read {ts = ts} {us = us} (one_stmt {s = s} {stmts = stmts} r rs) e =
    subst (λ x. MoreStmts read x ts us) (append_assoc read (s ∷ []) stmts) (one_more_stmt r (to_more (read ++ s ∷ []) rs e))

-- the statements as the grammar has them
record Rest (read all : List Stmt) (ts us : List Tok) : Type 0 where
  stmts : List Stmt
  place : Place
  are : all ≡ read ++ stmts
  reads : ReadsStmts stmts ts (T.BraceClose · place ∷ us)

from_more : {read all : List Stmt} {ts us : List Tok} → MoreStmts read all ts us → Rest read all ts us
from_more {read = read} (closed {p = p}) = record { stmts = []; place = p; are = sym (append-nil read); reads = no_stmt }
from_more {read = read} (one_more_stmt {s = s} r k) =
    let q = from_more k in record { stmts = s ∷ q.stmts; place = q.place; are = q.are ∙ append_assoc read (s ∷ []) q.stmts; reads = one_stmt r q.reads }

abbrev pub BlockLeft : List Stmt → List Tok → List Tok → Type 0
BlockLeft = Then (Sign T.BraceOpen) (λ _. MoreStmts [])

block_less : (b : List Stmt) (ts us : List Tok) → BlockLeft b ts us → ReadsBlock b ts us
block_less b ts us (p, vs, sign, k) = let q = from_more k in subst (λ x. ReadsBlock x ts us) (sym q.are) (block q.reads)

block_more : (b : List Stmt) (ts us : List Tok) → ReadsBlock b ts us → BlockLeft b ts us
block_more b ts us (block r) = (_, _, sign, to_more [] r refl)

pub block_here : (old : Ahead) → Still ReadsBlock any old old BlockLeft
block_here old = is (here old) block_less (λ b more rest r h. block_more b _ rest r)

pub more_complete : (read : List Stmt) → Completes (MoreStmts read)
more_complete read = (read, T.BraceClose · somewhere ∷ [], λ rest. closed)

abbrev pub OneMore : List Stmt → List Stmt → List Tok → List Tok → Type 0
OneMore read = Then ReadsStmt (λ s. MoreStmts (read ++ s ∷ []))

stmt_more : (read all : List Stmt) (t : Tok) → (mark_of t.symbol ≡ Some T.BraceClose → ⊥) → (more rest : List Tok) → MoreStmts read all (t ∷ more) rest →
    OneMore read all (t ∷ more) rest
stmt_more read all t m more rest closed = absurd (m refl)
stmt_more read all t m more rest (one_more_stmt {s = s} {us = us} r k) = (s, us, r, k)

pub stmt_left : {old cur : Ahead} (read : List Stmt) → Still ReadsBlock any old cur (MoreStmts read) → (mark_of (next_of cur).symbol ≡ Some T.BraceClose → ⊥) →
    Still ReadsBlock any old cur (OneMore read)
stmt_left {cur = cur} read s m = is s
    (λ all more rest q. one_more_stmt q.2 q.3)
    (λ all more rest r h. stmt_more read all (next_of cur) m more rest r)

end_less : (read all : List Stmt) (ts us : List Tok) → Closing T.BraceClose read all ts us → MoreStmts read all ts us
end_less read all ts us (p, vs, sign, (f, g)) = subst (λ x. MoreStmts read x ts us) (sym f) (subst (λ zs. MoreStmts read read ts zs) (sym g) closed)

end_more : (read all : List Stmt) (t : Tok) → mark_of t.symbol ≡ Some T.BraceClose → (more rest : List Tok) → MoreStmts read all (t ∷ more) rest →
    Closing T.BraceClose read all (t ∷ more) rest
end_more read all t m more rest closed = (_, rest, sign, (refl, refl))
end_more read all t m more rest (one_more_stmt {s = s} {us = us} r k) = absurd (closed_stmt s t m more us r)

pub end_left : {old cur : Ahead} (read : List Stmt) → Still ReadsBlock any old cur (MoreStmts read) → mark_of (next_of cur).symbol ≡ Some T.BraceClose →
    Still ReadsBlock any old cur (Closing T.BraceClose read)
end_left {cur = cur} read s m = is s (end_less read) (λ all more rest r h. end_more read all (next_of cur) m more rest r)

-- ---- the statements of a block stand behind those of the blocks around it

pub one_behind : (before own all new : List Stmt) (s : Stmt) → all ≡ before ++ own → new ≡ all ++ s ∷ [] → new ≡ before ++ (own ++ s ∷ [])
one_behind before own all new s e f = f ∙ ap (λ xs. xs ++ s ∷ []) e ∙ append_assoc before own (s ∷ [])

pub begins_within : (begin : ℕ) (before own all : List Stmt) → all ≡ before ++ own → begin ≡ length before → begin ≤ length all
begins_within begin before own all e f = let g : length all ≡ length before + length own = ap length e ∙ length-append before own in omega (arith, f, g)

pub own_behind : (begin : ℕ) (before own all : List Stmt) → all ≡ before ++ own → begin ≡ length before → drop begin all ≡ own
own_behind begin before own all e f = rw (e, f) (drop-append_seam before own)

pub others_before : (begin : ℕ) (before own all : List Stmt) → all ≡ before ++ own → begin ≡ length before → take begin all ≡ before
others_before begin before own all e f = rw (e, f) (take-append_seam before own)
