use Rattle.std.proofs.lemmas.Result.{err_from_is_err_and}
use Rattle.kt_read.proofs.ExpressionSteps.{closing_completes}
use Rattle.kt_read.proofs.Completing.{done_completes}
use Rattle.kt_read.proofs.Still.{here, done, next_any, fails_any}
use Rattle.kt_read.proofs.reader.statements.name_then.Goals as goal

pub returns-in_err-name : goal.returns-in_err-name
returns-in_err-name c =
    let p = err_from_is_err_and c.from_residual.result c.from_residual.ensures.1 in
    rw (p.1, p.2) (fails_any _ _ (here _) c.in_err-name.ensures (λ n. closing_completes c.args.mark n))

pub returns-in_err-expect : goal.returns-in_err-expect
returns-in_err-expect c =
    let s1 = next_any (here _) c.in_ok-name.ensures in
    let p = err_from_is_err_and c.from_residual-in_err-expect.result c.from_residual-in_err-expect.ensures.1 in
    rw (p.1, p.2) (fails_any _ _ s1 c.in_err-expect.ensures (λ x. done_completes _))

pub returns : goal.returns
returns c =
    let s1 = next_any (here _) c.in_ok-name.ensures in
    done (next_any s1 c.in_ok-expect.ensures)
