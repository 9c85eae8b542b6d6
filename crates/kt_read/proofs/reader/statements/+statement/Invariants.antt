use Rattle.std.proofs.Common.{◌≡◌, ◌+◌, ◌*◌, ◌<◌, List, ◌++◌}
use Rattle.kt_prog.specs.declared.programs.Stmt.{Stmt}
use Rattle.kt_tokens.specs.Reading.{any}
use Rattle.kt_read.specs.StatementResiduals.{MoreStmts}
use Rattle.kt_read.specs.Statements.{ReadsBlock}
use Rattle.kt_read.proofs.Shrinking.{left}
use Rattle.kt_read.proofs.Still.{Still}
use Rattle.kt_read.proofs.reader.statements.+statement.Given as goal

-- a statement is told by its next token, and each other part reads a token first
abbrev pub decreases-statement : goal.decreases-statement
decreases-statement l = 4 * left l.source.now + 2

abbrev pub decreases-if_statement : goal.decreases-if_statement
decreases-if_statement l = 4 * left l.source.now + 1

abbrev pub decreases-for_statement : goal.decreases-for_statement
decreases-for_statement l = 4 * left l.source.now + 1

abbrev pub decreases-otherwise : goal.decreases-otherwise
decreases-otherwise l = 4 * left l.source.now + 1

abbrev pub decreases-block : goal.decreases-block
decreases-block l = 4 * left l.source.now + 1

-- the statements of a block stand behind those of the blocks around it
abbrev pub invariant-block-each : goal.invariant-block-each
invariant-block-each l =
    (own : List Stmt) × (l.stmts.items ≡ l.fn.stmts.items ++ own) × Still ReadsBlock any l.fn.source l.source (MoreStmts own) × (left l.source < left l.fn.source)

abbrev pub decreases-block-each : goal.decreases-block-each
decreases-block-each l = left l.source
