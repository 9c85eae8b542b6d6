use Rattle.std.proofs.Common.{◌≡◌, ◌++◌, drop, map, string_bytes}
use Rattle.std.specs.List.{flat_map}
use Rattle.kt_print.specs.CanonicalStatements.{StmtText, text_of_stmt}
use Rattle.kt_print.proofs.printing.statements.+statement.Given as goal

-- the text so far and that of the statements that are left are the whole text
abbrev pub invariant-push_block-loop-stmt : goal.invariant-push_block-loop-stmt
invariant-push_block-loop-stmt l =
    string_bytes l.text ++ flat_map (λ (s : StmtText). s l.deeper) (map text_of_stmt (drop l.stmt-index l.body))
    ≡ string_bytes l.initial.text ++ flat_map (λ (s : StmtText). s l.deeper) (map text_of_stmt l.body)
