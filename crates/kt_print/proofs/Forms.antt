-- The canonical text of each form of expression and of statement.
use Rattle.std.proofs.Common.{◌≡◌, ℕ, List, ◌++◌, Option, codes, map, ap, sym, ◌∙◌}
use Rattle.std.specs.Fmt.{decimal}
use Rattle.kt_law.specs.declared.operators.BinOp.{BinOp}
use Rattle.kt_law.specs.declared.operators.Op.{Op}
use Rattle.kt_law.specs.declared.places.Place.{Place}
use Rattle.kt_prog.specs.declared.programs.Arg.{Arg}
use Rattle.kt_prog.specs.declared.programs.Expr.{Expr, Num, Var, Elem, Bin, fold-roll-Expr}
use Rattle.kt_prog.specs.declared.programs.Expr.TheVariants.{rolls-Num, rolls-Var, rolls-Elem, rolls-Bin}
use Rattle.kt_prog.specs.declared.programs.Expr.TheOpen as E
use Rattle.kt_prog.specs.declared.programs.Stmt.{Stmt, fold_out-Stmt}
use Rattle.kt_prog.specs.declared.programs.What.{What, Let, Set, Store, Fold, If, For, Fork, fold-roll-What}
use Rattle.kt_prog.specs.declared.programs.What.TheVariants as W
use Rattle.kt_prog.specs.declared.programs.What.TheOpen as F
use Rattle.kt_print.specs.declared.printing.operators.Level.TheVariants.{Atom}
use Rattle.kt_print.specs.CanonicalExpressions.{Printed, applied_text, expr_text, level_of, print_layer, printed, sign_of}
use Rattle.kt_print.specs.CanonicalStatements.{StmtText, stmt_layer, block_text, element_text, else_text, forked_text, span_text, text_of_stmt, text_of_what, what_text}
use Rattle.kt_print.specs.CanonicalWords.{line, op_word}

-- ---- expressions

pub printed_num : (n : ℕ) → printed (Num n) ≡ record { level = Atom; text = decimal n }
printed_num n = ap printed (sym (rolls-Num n)) ∙ fold-roll-Expr Printed print_layer (E.Num n)

pub printed_var : (n : List ℕ) (p : Place) → printed (Var n p) ≡ record { level = Atom; text = n }
printed_var n p = ap printed (sym (rolls-Var n p)) ∙ fold-roll-Expr Printed print_layer (E.Var n p)

pub printed_elem : (n : List ℕ) (p : Place) (e : Expr) → printed (Elem n p e) ≡ record { level = Atom; text = n ++ (codes "[" ++ (expr_text e ++ codes "]")) }
printed_elem n p e = ap printed (sym (rolls-Elem n p e)) ∙ fold-roll-Expr Printed print_layer (E.Elem n p e)

pub printed_bin : (op : BinOp) (a b : Expr) → printed (Bin op a b) ≡ record { level = level_of op; text = applied_text (level_of op) (sign_of op) (printed a) (printed b) }
printed_bin op a b = ap printed (sym (rolls-Bin op a b)) ∙ fold-roll-Expr Printed print_layer (E.Bin op a b)

-- ---- statements, with so many blanks before their first line

pub stmt_text : (s : Stmt) (n : ℕ) → text_of_stmt s n ≡ text_of_what s.what n
stmt_text s n = ap (λ (m : StmtText). m n) (fold_out-Stmt StmtText StmtText what_text stmt_layer s)

pub let_text : (name : List ℕ) (p : Place) (e : Expr) (n : ℕ) → text_of_what (Let name p e) n ≡ line n (codes "let " ++ (name ++ (codes " = " ++ (expr_text e ++ codes ";"))))
let_text name p e n = ap (λ w. text_of_what w n) (sym (W.rolls-Let name p e)) ∙ ap (λ (m : StmtText). m n) (fold-roll-What StmtText StmtText what_text stmt_layer (F.Let name p e))

pub set_text : (name : List ℕ) (p : Place) (e : Expr) (n : ℕ) → text_of_what (Set name p e) n ≡ line n (name ++ (codes " = " ++ (expr_text e ++ codes ";")))
set_text name p e n = ap (λ w. text_of_what w n) (sym (W.rolls-Set name p e)) ∙ ap (λ (m : StmtText). m n) (fold-roll-What StmtText StmtText what_text stmt_layer (F.Set name p e))

pub store_text : (name : List ℕ) (p : Place) (i e : Expr) (n : ℕ) → text_of_what (Store name p i e) n ≡ line n (element_text name i ++ (codes " = " ++ (expr_text e ++ codes ";")))
store_text name p i e n = ap (λ w. text_of_what w n) (sym (W.rolls-Store name p i e)) ∙ ap (λ (m : StmtText). m n) (fold-roll-What StmtText StmtText what_text stmt_layer (F.Store name p i e))

pub fold_text : (name : List ℕ) (p : Place) (i : Expr) (op : Op) (e : Expr) (n : ℕ) →
    text_of_what (Fold name p i op e) n ≡ line n (element_text name i ++ (codes " " ++ (op_word op ++ (codes "= " ++ (expr_text e ++ codes ";")))))
fold_text name p i op e n = ap (λ w. text_of_what w n) (sym (W.rolls-Fold name p i op e)) ∙ ap (λ (m : StmtText). m n) (fold-roll-What StmtText StmtText what_text stmt_layer (F.Fold name p i op e))

pub fork_text : (name : List ℕ) (p : Place) (count : Option Expr) (args : List Arg) (n : ℕ) →
    text_of_what (Fork name p count args) n ≡ line n (codes "fork " ++ (name ++ (codes "(" ++ (forked_text count args ++ codes ");"))))
fork_text name p count args n = ap (λ w. text_of_what w n) (sym (W.rolls-Fork name p count args)) ∙ ap (λ (m : StmtText). m n) (fold-roll-What StmtText StmtText what_text stmt_layer (F.Fork name p count args))

pub for_text : (name : List ℕ) (p : Place) (a b : Expr) (body : List Stmt) (n : ℕ) → text_of_what (For name p a b body) n
    ≡ line n (codes "for " ++ (name ++ (codes " in " ++ (span_text a b ++ codes " {")))) ++ (block_text (map text_of_stmt body) n ++ line n (codes "}"))
for_text name p a b body n = ap (λ w. text_of_what w n) (sym (W.rolls-For name p a b body)) ∙ ap (λ (m : StmtText). m n) (fold-roll-What StmtText StmtText what_text stmt_layer (F.For name p a b body))

pub if_text : (e : Expr) (xs ys : List Stmt) (n : ℕ) → text_of_what (If e xs ys) n
    ≡ line n (codes "if " ++ (expr_text e ++ codes " {")) ++ (block_text (map text_of_stmt xs) n ++ (else_text (map text_of_stmt ys) n ++ line n (codes "}")))
if_text e xs ys n = ap (λ w. text_of_what w n) (sym (W.rolls-If e xs ys)) ∙ ap (λ (m : StmtText). m n) (fold-roll-What StmtText StmtText what_text stmt_layer (F.If e xs ys))
