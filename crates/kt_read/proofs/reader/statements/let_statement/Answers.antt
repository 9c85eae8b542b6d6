use Rattle.std.proofs.lemmas.Result.{err_from_is_err_and}
use Rattle.kt_read.proofs.StatementSteps.{let_value_completes, let_completes}
use Rattle.kt_read.proofs.Completing.{done_completes}
use Rattle.kt_read.proofs.Still.{here, done, next_any, fails_any}
use Rattle.kt_read.proofs.reader.statements.let_statement.Goals as goal

pub returns-in_err-place : goal.returns-in_err-place
returns-in_err-place c =
    let p = err_from_is_err_and c.from_residual.result c.from_residual.ensures.1 in
    rw (p.1, p.2) (fails_any _ _ (here _) c.in_err-place.ensures let_completes)

pub returns-in_err-name : goal.returns-in_err-name
returns-in_err-name c =
    let s1 = next_any (here _) c.in_ok-place.ensures in
    let p = err_from_is_err_and c.from_residual-in_err-name.result c.from_residual-in_err-name.ensures.1 in
    rw (p.1, p.2) (fails_any _ _ s1 c.in_err-name.ensures (let_value_completes c.in_ok-place.place))

pub returns-in_err-value : goal.returns-in_err-value
returns-in_err-value c =
    let s1 = next_any (here _) c.in_ok-place.ensures in
    let s2 = next_any s1 c.in_ok-name.ensures in
    let p = err_from_is_err_and c.from_residual-in_err-value.result c.from_residual-in_err-value.ensures.1 in
    rw (p.1, p.2) (fails_any _ _ s2 c.in_err-value.ensures (λ e. done_completes _))

pub returns : goal.returns
returns c =
    let s1 = next_any (here _) c.in_ok-place.ensures in
    let s2 = next_any s1 c.in_ok-name.ensures in
    (_, c.in_ok-add.ensures, done (next_any s2 c.in_ok-value.ensures))
