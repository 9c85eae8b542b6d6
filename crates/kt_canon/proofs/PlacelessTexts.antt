-- The canonical text of a program says nothing of its places.
use Rattle.std.proofs.Common.{◌≡◌, ℕ, List, [], ◌∷◌, ◌++◌, codes, map, Option, Some, None, refl, ap, sym, subst, ◌∙◌}
use Rattle.std.specs.List.{flat_map}
use Rattle.kt_prog.specs.declared.programs.Arg.{Arg}
use Rattle.kt_prog.specs.declared.programs.ArgWhat.{ArgWhat}
use Rattle.kt_prog.specs.declared.programs.ArgWhat.TheVariants.{Value, Span}
use Rattle.kt_prog.specs.declared.programs.Expr.{Expr, Expr-F, roll-Expr, map-Expr, fold-roll-Expr, ind-Expr}
use Rattle.kt_prog.specs.declared.programs.Expr.TheVariants.{rolls-Num, rolls-Var, rolls-Elem, rolls-Bin}
use Rattle.kt_prog.specs.declared.programs.Expr.TheOpen as E
use Rattle.kt_prog.specs.declared.programs.Family.{Family}
use Rattle.kt_prog.specs.declared.programs.Index.{Index}
use Rattle.kt_prog.specs.declared.programs.Main.{Main}
use Rattle.kt_prog.specs.declared.programs.Param.{Param}
use Rattle.kt_prog.specs.declared.programs.Program.{Program}
use Rattle.kt_prog.specs.declared.programs.Stmt.{Stmt, Stmt-F, roll-Stmt, map-Stmt, fold-roll-Stmt, fold_out-Stmt, ind-Stmt}
use Rattle.kt_prog.specs.declared.programs.Task.{Task}
use Rattle.kt_prog.specs.declared.programs.What.{What, What-F, roll-What, map-What, fold-roll-What}
use Rattle.kt_prog.specs.declared.programs.What.TheVariants as V
use Rattle.kt_prog.specs.declared.programs.What.TheOpen as W
use Rattle.kt_print.specs.CanonicalExpressions.{Printed, print_layer, printed, expr_text}
use Rattle.kt_print.specs.CanonicalStatements.{StmtText, argument_text, arguments_text, block_text, else_text, forked_text, what_text, stmt_layer as text_layer, text_of_what, text_of_stmt}
use Rattle.kt_print.specs.CanonicalText.{canonical_text, family_text, main_text, task_text, task_head, params_text, param_text}
use Rattle.kt_print.specs.CanonicalWords.{line, op_word}
use Rattle.kt_canon.specs.Placeless.{SameButForPlaces, expr_layer, nowhere, placeless, placeless_arg, placeless_argument, placeless_expr, placeless_family, placeless_index, placeless_length, placeless_main, placeless_param, placeless_stmt, placeless_task, placeless_what, stmt_layer, what_layer}

-- ---- expressions

abbrev SameExpr : Expr → Type 0
SameExpr e = printed (placeless_expr e) ≡ printed e

printed_as : (y : Expr-F Expr) (e : Expr) → roll-Expr y ≡ e → printed e ≡ print_layer (map-Expr _ _ printed y)
printed_as y e is = ap printed (sym is) ∙ fold-roll-Expr Printed print_layer y

expr_same_layer : (y : Expr-F ((e : Expr) × SameExpr e)) →
    printed (expr_layer (map-Expr _ _ placeless_expr (map-Expr _ _ (λ e. e.0) y))) ≡ print_layer (map-Expr _ _ printed (map-Expr _ _ (λ e. e.0) y))
expr_same_layer (E.Num n) = printed_as (E.Num n) _ (rolls-Num n)
expr_same_layer (E.Var name place) = printed_as (E.Var name nowhere) _ (rolls-Var name nowhere)
expr_same_layer (E.Elem name place at) = printed_as (E.Elem name nowhere (placeless_expr at.0)) _ (rolls-Elem name nowhere (placeless_expr at.0)) ∙ rw at.1 refl
expr_same_layer (E.Bin op a b) = printed_as (E.Bin op (placeless_expr a.0) (placeless_expr b.0)) _ (rolls-Bin op (placeless_expr a.0) (placeless_expr b.0)) ∙ rw (a.1, b.1) refl

expr_same : (e : Expr) → SameExpr e
expr_same = ind-Expr SameExpr (λ x y is.
    subst (λ (z : Expr-F Expr). printed (placeless_expr (roll-Expr z)) ≡ printed (roll-Expr z)) is
    (rw (fold-roll-Expr Expr expr_layer (map-Expr _ _ (λ e. e.0) y), fold-roll-Expr Printed print_layer (map-Expr _ _ (λ e. e.0) y)) (expr_same_layer y)))

text_same : (e : Expr) → expr_text (placeless_expr e) ≡ expr_text e
text_same e = ap (λ (p : Printed). p.text) (expr_same e)

-- ---- statements

argument_same : (a : ArgWhat) → argument_text (placeless_argument a) ≡ argument_text a
argument_same (Value e) = text_same e
argument_same (Span name place a b) = rw (text_same a, text_same b) refl

arguments_same : (lead : List ℕ) (args : List Arg) → arguments_text lead (map placeless_arg args) ≡ arguments_text lead args
arguments_same lead [] = refl
arguments_same lead (a ∷ args) = λ i. lead ++ (argument_same a.what i ++ arguments_same (codes ", ") args i)

forked_same : (len : Option Expr) (args : List Arg) → forked_text (placeless_length len) (map placeless_arg args) ≡ forked_text len args
forked_same None args = arguments_same [] args
forked_same (Some e) args = λ i. text_same e i ++ (codes ";" ++ arguments_same (codes " ") args i)

abbrev SameWhat : What → Type 0
SameWhat w = text_of_what (placeless_what w) ≡ text_of_what w

abbrev SameStmt : Stmt → Type 0
SameStmt x = text_of_stmt (placeless_stmt x) ≡ text_of_stmt x

written_as : (y : What-F What Stmt) (w : What) → roll-What y ≡ w → text_of_what w ≡ what_text (map-What _ _ _ _ text_of_what text_of_stmt y)
written_as y w is = ap text_of_what (sym is) ∙ fold-roll-What StmtText StmtText what_text text_layer y

texts_same : (xs : List ((x : Stmt) × SameStmt x)) →
    map text_of_stmt (map placeless_stmt (map (λ x. x.0) xs)) ≡ map text_of_stmt (map (λ x. x.0) xs)
texts_same [] = refl
texts_same (x ∷ xs) = rw (x.1, texts_same xs) refl

what_same_layer : (y : What-F ((w : What) × SameWhat w) ((x : Stmt) × SameStmt x)) →
    text_of_what (what_layer (map-What _ _ _ _ placeless_what placeless_stmt (map-What _ _ _ _ (λ e. e.0) (λ e. e.0) y)))
    ≡ what_text (map-What _ _ _ _ text_of_what text_of_stmt (map-What _ _ _ _ (λ e. e.0) (λ e. e.0) y))
what_same_layer (W.Let name place e) = written_as (W.Let name nowhere (placeless_expr e)) _ (V.rolls-Let name nowhere (placeless_expr e))
    ∙ λ k n. line n (codes "let " ++ (name ++ (codes " = " ++ (text_same e k ++ codes ";"))))
what_same_layer (W.Set name place e) = written_as (W.Set name nowhere (placeless_expr e)) _ (V.rolls-Set name nowhere (placeless_expr e))
    ∙ λ k n. line n (name ++ (codes " = " ++ (text_same e k ++ codes ";")))
what_same_layer (W.Store name place i e) =
    written_as (W.Store name nowhere (placeless_expr i) (placeless_expr e)) _ (V.rolls-Store name nowhere (placeless_expr i) (placeless_expr e))
    ∙ λ k n. line n ((name ++ (codes "[" ++ (text_same i k ++ codes "]"))) ++ (codes " = " ++ (text_same e k ++ codes ";")))
what_same_layer (W.Fold name place i op e) =
    written_as (W.Fold name nowhere (placeless_expr i) op (placeless_expr e)) _ (V.rolls-Fold name nowhere (placeless_expr i) op (placeless_expr e))
    ∙ λ k n. line n ((name ++ (codes "[" ++ (text_same i k ++ codes "]"))) ++ (codes " " ++ (op_word op ++ (codes "= " ++ (text_same e k ++ codes ";")))))
what_same_layer (W.If test then_do else_do) =
    let us : List Stmt = map placeless_stmt (map (λ x. x.0) then_do) in
    let vs : List Stmt = map placeless_stmt (map (λ x. x.0) else_do) in
    written_as (W.If (placeless_expr test) us vs) _ (V.rolls-If (placeless_expr test) us vs)
    ∙ λ k n. line n (codes "if " ++ (text_same test k ++ codes " {")) ++ (block_text (texts_same then_do k) n ++ (else_text (texts_same else_do k) n ++ line n (codes "}")))
what_same_layer (W.For name place a b body) =
    let us : List Stmt = map placeless_stmt (map (λ x. x.0) body) in
    written_as (W.For name nowhere (placeless_expr a) (placeless_expr b) us) _ (V.rolls-For name nowhere (placeless_expr a) (placeless_expr b) us)
    ∙ λ k n. line n (codes "for " ++ (name ++ (codes " in " ++ ((text_same a k ++ (codes ".." ++ text_same b k)) ++ codes " {"))))
    ++ (block_text (texts_same body k) n ++ line n (codes "}"))
what_same_layer (W.Fork name place len args) =
    written_as (W.Fork name nowhere (placeless_length len) (map placeless_arg args)) _ (V.rolls-Fork name nowhere (placeless_length len) (map placeless_arg args))
    ∙ λ k n. line n (codes "fork " ++ (name ++ (codes "(" ++ (forked_same len args k ++ codes ");"))))

stmt_same_layer : (y : Stmt-F ((w : What) × SameWhat w) ((x : Stmt) × SameStmt x)) →
    text_of_stmt (stmt_layer (map-Stmt _ _ _ _ placeless_what placeless_stmt (map-Stmt _ _ _ _ (λ e. e.0) (λ e. e.0) y)))
    ≡ text_layer (map-Stmt _ _ _ _ text_of_what text_of_stmt (map-Stmt _ _ _ _ (λ e. e.0) (λ e. e.0) y))
stmt_same_layer y = fold_out-Stmt StmtText StmtText what_text text_layer (record { place = nowhere; what = placeless_what y.what.0 }) ∙ y.what.1

stmt_same : (x : Stmt) → SameStmt x
stmt_same = ind-Stmt SameWhat SameStmt
    (λ x y is. subst (λ (z : What-F What Stmt). text_of_what (placeless_what (roll-What z)) ≡ text_of_what (roll-What z)) is
    (rw (
      fold-roll-What What Stmt what_layer stmt_layer (map-What _ _ _ _ (λ e. e.0) (λ e. e.0) y),
      fold-roll-What StmtText StmtText what_text text_layer (map-What _ _ _ _ (λ e. e.0) (λ e. e.0) y),
    ) (what_same_layer y)))
    (λ x y is. subst (λ (z : Stmt-F What Stmt). text_of_stmt (placeless_stmt (roll-Stmt z)) ≡ text_of_stmt (roll-Stmt z)) is
    (rw (
      fold-roll-Stmt What Stmt what_layer stmt_layer (map-Stmt _ _ _ _ (λ e. e.0) (λ e. e.0) y),
      fold-roll-Stmt StmtText StmtText what_text text_layer (map-Stmt _ _ _ _ (λ e. e.0) (λ e. e.0) y),
    ) (stmt_same_layer y)))

-- ---- declarations

body_same : (xs : List Stmt) → map text_of_stmt (map placeless_stmt xs) ≡ map text_of_stmt xs
body_same [] = refl
body_same (x ∷ xs) = rw (stmt_same x, body_same xs) refl

families_same : (xs : List Family) → flat_map family_text (map placeless_family xs) ≡ flat_map family_text xs
families_same [] = refl
families_same (x ∷ xs) = ap (λ text. family_text x ++ text) (families_same xs)

params_same : (lead : List ℕ) (xs : List Param) → params_text lead (map placeless_param xs) ≡ params_text lead xs
params_same lead [] = refl
params_same lead (x ∷ xs) = λ i. lead ++ (param_text x ++ params_same (codes ", ") xs i)

head_same : (i : Option Index) (name : List ℕ) (params : List Param) → task_head (placeless_index i) name (map placeless_param params) ≡ task_head i name params
head_same None name params = rw (params_same [] params) refl
head_same (Some i) name params = rw (params_same (codes " ") params) refl

task_same : (t : Task) → task_text (placeless_task t) ≡ task_text t
task_same t = rw (head_same t.index t.name t.params, body_same t.body) refl

tasks_same : (xs : List Task) → flat_map task_text (map placeless_task xs) ≡ flat_map task_text xs
tasks_same [] = refl
tasks_same (x ∷ xs) = λ i. task_same x i ++ tasks_same xs i

main_same : (m : Main) → main_text (placeless_main m) ≡ main_text m
main_same m = rw (body_same m.body) refl

mains_same : (xs : List Main) → flat_map main_text (map placeless_main xs) ≡ flat_map main_text xs
mains_same [] = refl
mains_same (x ∷ xs) = λ i. main_same x i ++ mains_same xs i

bare_text : (p : Program) → canonical_text (placeless p) ≡ canonical_text p
bare_text p = λ i. families_same p.families i ++ (tasks_same p.tasks i ++ (mains_same p.mains i ++ line 0 (codes "data")))

-- programs that are the same but for places have one canonical text
pub same_text : (p q : Program) → SameButForPlaces p q → canonical_text p ≡ canonical_text q
same_text p q same = sym (bare_text p) ∙ ap canonical_text same ∙ bare_text q
