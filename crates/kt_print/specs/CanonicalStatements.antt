-- The canonical text of statements. The number is that of the blanks before their first line.
use Rattle.std.specs.Prelude.{ℕ, ◌+◌, List, [], ◌∷◌, ◌++◌, Option, Some, None, map, codes}
use Rattle.std.specs.List.{flat_map}
use Rattle.kt_prog.specs.declared.programs.Arg.{Arg}
use Rattle.kt_prog.specs.declared.programs.ArgWhat.{ArgWhat}
use Rattle.kt_prog.specs.declared.programs.ArgWhat.TheVariants.{Value, Span}
use Rattle.kt_prog.specs.declared.programs.Expr.{Expr}
use Rattle.kt_prog.specs.declared.programs.Stmt.{Stmt, Stmt-F, fold-Stmt}
use Rattle.kt_prog.specs.declared.programs.What.{What, What-F, fold-What}
use Rattle.kt_prog.specs.declared.programs.What.TheOpen as W
use Rattle.kt_print.specs.CanonicalExpressions.{expr_text}
use Rattle.kt_print.specs.CanonicalWords.{op_word, line, listed}

abbrev pub StmtText : Type 0
StmtText = ℕ → List ℕ

-- two blanks more than the line that has the block's `{`
abbrev pub block_text : List StmtText → StmtText
block_text stmts indent = flat_map (λ (s : StmtText). s (indent + 2)) stmts

-- the lines up to the last `}` of an `if`
abbrev pub else_text : List StmtText → StmtText
else_text [] indent = []
else_text (s ∷ stmts) indent = line indent (codes "} else {") ++ block_text (s ∷ stmts) indent

-- `N[E]`
abbrev pub element_text : List ℕ → Expr → List ℕ
element_text name at = name ++ (codes "[" ++ (expr_text at ++ codes "]"))

-- `E..E`
abbrev pub span_text : Expr → Expr → List ℕ
span_text a b = expr_text a ++ (codes ".." ++ expr_text b)

-- the expression, or `N[E..E]`
abbrev pub argument_text : ArgWhat → List ℕ
argument_text (Value e) = expr_text e
argument_text (Span name place a b) = name ++ (codes "[" ++ (span_text a b ++ codes "]"))

abbrev pub arguments_text : List ℕ → List Arg → List ℕ
arguments_text lead args = listed lead (map (λ (a : Arg). argument_text a.what) args)

-- `A, A`, `E; A, A` or `E;`
abbrev pub forked_text : Option Expr → List Arg → List ℕ
forked_text None args = arguments_text [] args
forked_text (Some e) args = expr_text e ++ (codes ";" ++ arguments_text (codes " ") args)

abbrev pub what_text : What-F StmtText StmtText → StmtText
what_text (W.Let name place e) n = line n (codes "let " ++ (name ++ (codes " = " ++ (expr_text e ++ codes ";"))))
what_text (W.Set name place e) n = line n (name ++ (codes " = " ++ (expr_text e ++ codes ";")))
what_text (W.Store name place i e) n = line n (element_text name i ++ (codes " = " ++ (expr_text e ++ codes ";")))
what_text (W.Fold name place i op e) n =
    line n (element_text name i ++ (codes " " ++ (op_word op ++ (codes "= " ++ (expr_text e ++ codes ";")))))
what_text (W.If test then_do else_do) n =
    line n (codes "if " ++ (expr_text test ++ codes " {")) ++ (block_text then_do n ++ (else_text else_do n ++ line n (codes "}")))
what_text (W.For name place a b body) n =
    line n (codes "for " ++ (name ++ (codes " in " ++ (span_text a b ++ codes " {")))) ++ (block_text body n ++ line n (codes "}"))
what_text (W.Fork name place len args) n =
    line n (codes "fork " ++ (name ++ (codes "(" ++ (forked_text len args ++ codes ");"))))

abbrev pub stmt_layer : Stmt-F StmtText StmtText → StmtText
stmt_layer x = x.what

abbrev pub text_of_what : What → StmtText
text_of_what = fold-What StmtText StmtText what_text stmt_layer

abbrev pub text_of_stmt : Stmt → StmtText
text_of_stmt = fold-Stmt StmtText StmtText what_text stmt_layer
