use Rattle.std.proofs.lemmas.Result.{err_from_is_err_and}
use Rattle.kt_tokens.specs.Reading.{any}
use Rattle.kt_read.proofs.StatementSteps.{stmt_name_completes}
use Rattle.kt_read.proofs.Still.{here, adds, next_any, fails_any}
use Rattle.kt_read.proofs.reader.statements.named_statement.Goals as goal

pub returns-in_err-name : goal.returns-in_err-name
returns-in_err-name c =
    let p = err_from_is_err_and c.from_residual.result c.from_residual.ensures.1 in
    rw (p.1, p.2) (fails_any _ _ (here _) c.in_err-name.ensures stmt_name_completes)

pub returns : goal.returns
returns c =
    let s1 = next_any (here _) c.in_ok-name.ensures in
    adds any _ _ _ _ s1 c.statement_behind_name.ensures (λ us h. h)
