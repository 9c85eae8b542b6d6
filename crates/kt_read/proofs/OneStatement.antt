-- The same tokens are read as one argument, one block and one statement, which ends in one place.
use Rattle.std.proofs.Common.{◌≡◌, ℕ, List, [], ◌∷◌, Option, Some, refl, ap, sym, subst}
use Rattle.kt_law.specs.declared.places.Place.{Place}
use Rattle.kt_law.specs.declared.operators.Op.{Op}
use Rattle.kt_prog.specs.declared.programs.Arg.{Arg}
use Rattle.kt_prog.specs.declared.programs.ArgWhat.{ArgWhat}
use Rattle.kt_prog.specs.declared.programs.ArgWhat.TheVariants.{Value, Span}
use Rattle.kt_prog.specs.declared.programs.Expr.{Expr}
use Rattle.kt_prog.specs.declared.programs.Stmt.{Stmt}
use Rattle.kt_prog.specs.declared.programs.What.{What, Let, Set, Store, Fold, If, For, Fork}
use Rattle.kt_tokens.specs.declared.tokens.Mark.{Mark}
use Rattle.kt_tokens.specs.declared.tokens.Mark.TheVariants as T
use Rattle.kt_tokens.specs.declared.tokens.Symbol.{Symbol}
use Rattle.kt_tokens.specs.declared.tokens.Symbol.TheVariants as S
use Rattle.kt_tokens.specs.declared.tokens.Tok.{Tok}
use Rattle.kt_tokens.specs.Tokens.{◌·◌, named}
use Rattle.kt_read.specs.Expressions.{ReadsExpr, alone, compared, ReadsSum, sum_of, ReadsProduct, product_of, ReadsAtom, number, name, element, function, group}
use Rattle.kt_read.specs.Statements.{ReadsOp, op_word, ReadsArg, value, span, ReadsArgs, one_arg, more_args, ReadsMaybeArgs, no_args, some_args, ReadsForked, without_length, with_length, ReadsBlock, block, ReadsStmts, no_stmt, one_stmt, ReadsElse, no_else, else_block, ReadsStmt, let_stmt, set_stmt, store_stmt, fold_stmt, if_stmt, for_stmt, fork_stmt}
use Rattle.kt_read.proofs.Fronts.{at_front}
use Rattle.kt_read.proofs.Endings.{IsNotAt, elsewhere, EndsAtom, EndsProduct, EndsSum, EndsExpr, same_head, same_tail, one_entry, comparison_ends, at_square, at_paren, at_comma, at_semicolon, at_dots, at_brace}
use Rattle.kt_read.proofs.OneExpression.{expr_is, terms_end, factors_end}

-- ---- the next token

pub mark_is : {m n : Mark} {p q : Place} {ts us : List Tok} → m · p ∷ ts ≡ n · q ∷ us → S.Mark m ≡ S.Mark n
mark_is h = ap (λ (t : Tok). t.symbol) (same_head h)

-- ---- what expressions begin with

abbrev IsStart : Symbol → Type 0
IsStart (S.Mark T.ParenOpen) = Unit {0}
IsStart (S.Name n) = Unit {0}
IsStart (S.Number n) = Unit {0}
IsStart _ = ⊥

abbrev Starts : List Tok → Type 0
Starts [] = ⊥
Starts (t ∷ ts) = IsStart t.symbol

atom_starts : {e : Expr} {ts us : List Tok} → ReadsAtom e ts us → Starts ts
atom_starts number = tt
atom_starts name = tt
atom_starts (element r) = tt
atom_starts (function w r s) = tt
atom_starts (group r) = tt

product_starts : {e : Expr} {ts us : List Tok} → ReadsProduct e ts us → Starts ts
product_starts (product_of r rs) = atom_starts r

sum_starts : {e : Expr} {ts us : List Tok} → ReadsSum e ts us → Starts ts
sum_starts (sum_of r rs) = product_starts r

expr_starts : {e : Expr} {ts us : List Tok} → ReadsExpr e ts us → Starts ts
expr_starts (alone r) = sum_starts r
expr_starts (compared r o s) = sum_starts r

-- behind a name and an opening bracket there is an index
record HasIndex (ts : List Tok) : Type 0 where
  index : Expr
  place : Place
  rest : List Tok
  reads : ReadsExpr index ts (T.SquareClose · place ∷ rest)

atom_index : {n : List ℕ} {p q : Place} {e : Expr} {ts us : List Tok} → ReadsAtom e (named n p ∷ T.SquareOpen · q ∷ ts) us → EndsAtom us → HasIndex ts
atom_index name ends = absurd ends.no_bracket
atom_index (element {r} {e} {vs} i) ends = record { index = e; place = r; rest = vs; reads = i }

product_index : {n : List ℕ} {p q : Place} {e : Expr} {ts us : List Tok} → ReadsProduct e (named n p ∷ T.SquareOpen · q ∷ ts) us → EndsProduct us → HasIndex ts
product_index (product_of r rs) ends = atom_index r (factors_end rs ends)

sum_index : {n : List ℕ} {p q : Place} {e : Expr} {ts us : List Tok} → ReadsSum e (named n p ∷ T.SquareOpen · q ∷ ts) us → EndsSum us → HasIndex ts
sum_index (sum_of r rs) ends = product_index r (terms_end rs ends)

expr_index : {n : List ℕ} {p q : Place} {e : Expr} {ts us : List Tok} → ReadsExpr e (named n p ∷ T.SquareOpen · q ∷ ts) us → EndsExpr us → HasIndex ts
expr_index (alone r) ends = sum_index r ends.sum
expr_index (compared r o s) ends = sum_index r (comparison_ends o)

-- so it is no span
no_span : {n : List ℕ} {p q r : Place} {a e : Expr} {ts us vs : List Tok} → ReadsExpr e (named n p ∷ T.SquareOpen · q ∷ ts) us → EndsExpr us →
    ReadsExpr a ts (T.Dots · r ∷ vs) → ⊥
no_span r ends s =
    let i = expr_index r ends in
    let h = mark_is (expr_is i.reads s at_square at_dots).1 in cc

-- ---- arguments

pub op_is : {a b : Op} {ts us vs : List Tok} → ReadsOp a ts us → ReadsOp b ts vs → (a ≡ b) × (us ≡ vs)
op_is (op_word h) (op_word k) = (one_entry h k, refl)

abbrev arg_at : Place → ArgWhat → Arg
arg_at p what = record { place = p; what = what }

span_same : {n : List ℕ} {p : Place} {a b c d : Expr} → a ≡ c → b ≡ d → Span n p a b ≡ Span n p c d
span_same h k = cc

-- an argument that can be read as an expression too is one
arg_value : {a : Arg} {e : Expr} {ts us vs : List Tok} → ReadsArg a ts us → ReadsExpr e ts vs → EndsExpr us → EndsExpr vs → us ≡ vs
arg_value (value r) s e f = (expr_is r s e f).1
arg_value (span r r2) s e f = absurd (no_span s f r)

arg_is : {a b : Arg} {ts us vs : List Tok} → ReadsArg a ts us → ReadsArg b ts vs → EndsExpr us → EndsExpr vs → (a ≡ b) × (us ≡ vs)
arg_is (value {t} r) (value s) e f =
    let h = expr_is r s e f in (ap (λ x. arg_at t.place (Value x)) h.0, h.1)
arg_is (value r) (span s s2) e f = absurd (no_span r e s)
arg_is (span r r2) (value s) e f = absurd (no_span s f r)
arg_is (span {n} {p} r r2) (span s s2) e f =
    let h = expr_is r s at_dots at_dots in
    let k = expr_is r2 (at_front ReadsExpr (same_tail h.1) s2) at_square at_square in
    (ap (λ x. arg_at p x) (span_same h.0 k.0), same_tail k.1)

pub cons_same : {A : Type 0} {x y : A} {xs ys : List A} → x ≡ y → xs ≡ ys → x ∷ xs ≡ y ∷ ys
cons_same h k = cc

record EndsArgs (ts : List Tok) : Type 0 where
  expr : EndsExpr ts
  no_comma : IsNotAt (S.Mark T.Comma) ts

args_are : {a b : List Arg} {ts us vs : List Tok} → ReadsArgs a ts us → ReadsArgs b ts vs → EndsArgs us → EndsArgs vs → (a ≡ b) × (us ≡ vs)
args_are (one_arg r) (one_arg s) e f =
    let h = arg_is r s e.expr f.expr in (cons_same h.0 refl, h.1)
args_are (one_arg r) (more_args s ss) e f = absurd (e.no_comma.never (arg_is r s e.expr at_comma).1)
args_are (more_args r rs) (one_arg s) e f = absurd (f.no_comma.never (sym (arg_is r s at_comma f.expr).1))
args_are (more_args r rs) (more_args s ss) e f =
    let h = arg_is r s at_comma at_comma in
    let k = args_are rs (at_front ReadsArgs (same_tail h.1) ss) e f in
    (cons_same h.0 k.0, k.1)

arg_starts : {a : Arg} {ts us : List Tok} → ReadsArg a ts us → Starts ts
arg_starts (value r) = expr_starts r
arg_starts (span r s) = tt

args_start : {a : List Arg} {ts us : List Tok} → ReadsArgs a ts us → Starts ts
args_start (one_arg r) = arg_starts r
args_start (more_args r rs) = arg_starts r

args_end : {p : Place} {us : List Tok} → EndsArgs (T.ParenClose · p ∷ us)
args_end = record { expr = at_paren; no_comma = elsewhere (λ h. cc) }

pub maybe_args_are : {p q : Place} {a b : List Arg} {ts us vs : List Tok} → ReadsMaybeArgs a ts (T.ParenClose · p ∷ us) → ReadsMaybeArgs b ts (T.ParenClose · q ∷ vs) →
    (a ≡ b) × (T.ParenClose · p ∷ us ≡ T.ParenClose · q ∷ vs)
maybe_args_are no_args no_args = (refl, refl)
maybe_args_are no_args (some_args s) = absurd (args_start s)
maybe_args_are (some_args r) no_args = absurd (args_start r)
maybe_args_are (some_args r) (some_args s) = args_are r s args_end args_end

-- arguments are no length
no_length : {p q : Place} {a : List Arg} {e : Expr} {ts us vs : List Tok} → ReadsMaybeArgs a ts (T.ParenClose · p ∷ us) → ReadsExpr e ts (T.Semicolon · q ∷ vs) → ⊥
no_length no_args s = expr_starts s
no_length (some_args (one_arg r)) s = let h = mark_is (arg_value r s at_paren at_semicolon) in cc
no_length (some_args (more_args r rs)) s = let h = mark_is (arg_value r s at_comma at_semicolon) in cc

forked_is : {p q : Place} {m n : Option Expr} {a b : List Arg} {ts us vs : List Tok} →
    ReadsForked m a ts (T.ParenClose · p ∷ us) → ReadsForked n b ts (T.ParenClose · q ∷ vs) →
    (m ≡ n) × (a ≡ b) × (T.ParenClose · p ∷ us ≡ T.ParenClose · q ∷ vs)
forked_is (without_length r) (without_length s) = let h = maybe_args_are r s in (refl, h.0, h.1)
forked_is (without_length r) (with_length s ss) = absurd (no_length r s)
forked_is (with_length r rs) (without_length s) = absurd (no_length s r)
forked_is (with_length r rs) (with_length s ss) =
    let h = expr_is r s at_semicolon at_semicolon in
    let k = maybe_args_are rs (at_front ReadsMaybeArgs (same_tail h.1) ss) in
    (ap (λ e. Some e) h.0, k.0, k.1)

-- ---- statements

abbrev IsStmtStart : Symbol → Type 0
IsStmtStart (S.Mark T.Let) = Unit {0}
IsStmtStart (S.Mark T.If) = Unit {0}
IsStmtStart (S.Mark T.For) = Unit {0}
IsStmtStart (S.Mark T.Fork) = Unit {0}
IsStmtStart (S.Name n) = Unit {0}
IsStmtStart _ = ⊥

abbrev StartsStmt : List Tok → Type 0
StartsStmt [] = ⊥
StartsStmt (t ∷ ts) = IsStmtStart t.symbol

stmt_starts : {s : Stmt} {ts us : List Tok} → ReadsStmt s ts us → StartsStmt ts
stmt_starts (let_stmt r) = tt
stmt_starts (set_stmt r) = tt
stmt_starts (store_stmt r s) = tt
stmt_starts (fold_stmt r o s) = tt
stmt_starts (if_stmt r s t) = tt
stmt_starts (for_stmt r s t) = tt
stmt_starts (fork_stmt r) = tt

no_else_there : {ts : List Tok} → StartsStmt ts → IsNotAt (S.Mark T.Else) ts
no_else_there h = record { never = λ e. subst (λ ts. StartsStmt ts) e h }

-- no statement follows, and no `else`
record EndsStmts (ts : List Tok) : Type 0 where
  no_start : StartsStmt ts → ⊥
  no_else_word : IsNotAt (S.Mark T.Else) ts

stmts_end : {a : List Stmt} {ts us : List Tok} → ReadsStmts a ts us → EndsStmts us → IsNotAt (S.Mark T.Else) ts
stmts_end no_stmt ends = ends.no_else_word
stmts_end (one_stmt {ts} r rs) ends = no_else_there (stmt_starts r)

block_ends : {p : Place} {us : List Tok} → EndsStmts (T.BraceClose · p ∷ us)
block_ends = record { no_start = λ h. h; no_else_word = elsewhere (λ h. cc) }

-- an expression before a block
block_behind : {a : List Stmt} {ts us : List Tok} → ReadsBlock a ts us → EndsExpr ts
block_behind (block r) = at_brace

no_sign : {op : Op} {p : Place} {us vs : List Tok} → ReadsOp op (T.Becomes · p ∷ us) vs → ⊥
no_sign o = elim o [ ]

abbrev stmt_at : Place → What → Stmt
stmt_at p what = record { place = p; what = what }

store_same : {n : List ℕ} {p : Place} {i j d e : Expr} → i ≡ j → d ≡ e → Store n p i d ≡ Store n p j e
store_same h k = cc

fold_same : {n : List ℕ} {p : Place} {i j d e : Expr} {x y : Op} → i ≡ j → x ≡ y → d ≡ e → Fold n p i x d ≡ Fold n p j y e
fold_same h k l = cc

if_same : {d e : Expr} {a b c f : List Stmt} → d ≡ e → a ≡ c → b ≡ f → If d a b ≡ If e c f
if_same h k l = cc

for_same : {n : List ℕ} {p : Place} {a b c d : Expr} {s t : List Stmt} → a ≡ c → b ≡ d → s ≡ t → For n p a b s ≡ For n p c d t
for_same h k l = cc

fork_same : {n : List ℕ} {p : Place} {c d : Option Expr} {a b : List Arg} → c ≡ d → a ≡ b → Fork n p c a ≡ Fork n p d b
fork_same h k = cc

mutual
  pub block_is : {a b : List Stmt} {ts us vs : List Tok} → ReadsBlock a ts us → ReadsBlock b ts vs → (a ≡ b) × (us ≡ vs)
  block_is (block r) (block s) =
      let h = stmts_are r s block_ends block_ends in (h.0, same_tail h.1)

  stmts_are : {a b : List Stmt} {ts us vs : List Tok} → ReadsStmts a ts us → ReadsStmts b ts vs → EndsStmts us → EndsStmts vs → (a ≡ b) × (us ≡ vs)
  stmts_are no_stmt no_stmt e f = (refl, refl)
  stmts_are no_stmt (one_stmt s ss) e f = absurd (e.no_start (stmt_starts s))
  stmts_are (one_stmt r rs) no_stmt e f = absurd (f.no_start (stmt_starts r))
  stmts_are (one_stmt r rs) (one_stmt s ss) e f =
      let h = stmt_is r s (stmts_end rs e) (stmts_end ss f) in
      let k = stmts_are rs (at_front ReadsStmts h.1 ss) e f in
      (cons_same h.0 k.0, k.1)

  else_is : {a b : List Stmt} {ts us vs : List Tok} → ReadsElse a ts us → ReadsElse b ts vs → IsNotAt (S.Mark T.Else) us → IsNotAt (S.Mark T.Else) vs → (a ≡ b) × (us ≡ vs)
  else_is no_else no_else e f = (refl, refl)
  else_is no_else (else_block s) e f = absurd (e.never refl)
  else_is (else_block r) no_else e f = absurd (f.never refl)
  else_is (else_block r) (else_block s) e f = block_is r s

  stmt_is : {a b : Stmt} {ts us vs : List Tok} → ReadsStmt a ts us → ReadsStmt b ts vs → IsNotAt (S.Mark T.Else) us → IsNotAt (S.Mark T.Else) vs → (a ≡ b) × (us ≡ vs)
  stmt_is (let_stmt {n} {p} {q} r) (let_stmt s) e f =
      let h = expr_is r s at_semicolon at_semicolon in (ap (λ x. stmt_at p (Let n q x)) h.0, same_tail h.1)
  stmt_is (set_stmt {n} {p} r) (set_stmt s) e f =
      let h = expr_is r s at_semicolon at_semicolon in (ap (λ x. stmt_at p (Set n p x)) h.0, same_tail h.1)
  stmt_is (store_stmt {n} {p} r r2) (store_stmt s s2) e f =
      let h = expr_is r s at_square at_square in
      let k = expr_is r2 (at_front ReadsExpr (same_tail (same_tail h.1)) s2) at_semicolon at_semicolon in
      (ap (λ x. stmt_at p x) (store_same h.0 k.0), same_tail k.1)
  stmt_is (store_stmt r r2) (fold_stmt s o s2) e f =
      let h = expr_is r s at_square at_square in
      absurd (no_sign (at_front ReadsOp (same_tail h.1) o))
  stmt_is (fold_stmt r o r2) (store_stmt s s2) e f =
      let h = expr_is r s at_square at_square in
      absurd (no_sign (at_front ReadsOp (sym (same_tail h.1)) o))
  stmt_is (fold_stmt {n} {p} r o r2) (fold_stmt s o2 s2) e f =
      let h = expr_is r s at_square at_square in
      let i = op_is o (at_front ReadsOp (same_tail h.1) o2) in
      let k = expr_is r2 (at_front ReadsExpr (same_tail i.1) s2) at_semicolon at_semicolon in
      (ap (λ x. stmt_at p x) (fold_same h.0 i.0 k.0), same_tail k.1)
  stmt_is (if_stmt {p} r a c) (if_stmt s b d) e f =
      let h = expr_is r s (block_behind a) (block_behind b) in
      let k = block_is a (at_front ReadsBlock h.1 b) in
      let l = else_is c (at_front ReadsElse k.1 d) e f in
      (ap (λ x. stmt_at p x) (if_same h.0 k.0 l.0), l.1)
  stmt_is (for_stmt {n} {p} {q} r r2 a) (for_stmt s s2 b) e f =
      let h = expr_is r s at_dots at_dots in
      let k = expr_is r2 (at_front ReadsExpr (same_tail h.1) s2) (block_behind a) (block_behind b) in
      let l = block_is a (at_front ReadsBlock k.1 b) in
      (ap (λ x. stmt_at p x) (for_same h.0 k.0 l.0), l.1)
  stmt_is (fork_stmt {n} {p} {q} r) (fork_stmt s) e f =
      let h = forked_is r s in
      (ap (λ x. stmt_at p x) (fork_same h.0 h.1), same_tail (same_tail h.2))
