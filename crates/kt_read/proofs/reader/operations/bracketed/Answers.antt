use Rattle.std.proofs.lemmas.Result.{err_from_is_err_and}
use Rattle.kt_read.specs.DeclarationParts.{Bracketed}
use Rattle.kt_read.proofs.OperationSteps.{close_completes, op_completes}
use Rattle.kt_read.proofs.Completing.{done_completes}
use Rattle.kt_read.proofs.Still.{done, fails_any, here, next_any}
use Rattle.kt_read.proofs.reader.operations.bracketed.Goals as goal

pub returns-in_err-expect : goal.returns-in_err-expect
returns-in_err-expect c =
    let p = err_from_is_err_and c.from_residual.result c.from_residual.ensures.1 in
    rw (p.1, p.2) (fails_any {N = Bracketed} _ _ (here _) c.in_err-expect.ensures (λ _. op_completes))

pub returns-in_err-op : goal.returns-in_err-op
returns-in_err-op c =
    let s = next_any {N = Bracketed} (here _) c.in_ok-expect.ensures in
    let p = err_from_is_err_and c.from_residual-in_err-op.result c.from_residual-in_err-op.ensures.1 in
    rw (p.1, p.2) (fails_any _ _ s c.in_err-op.ensures (λ op. close_completes op))

pub returns-in_err-expect-2 : goal.returns-in_err-expect-2
returns-in_err-expect-2 c =
    let s = next_any (next_any {N = Bracketed} (here _) c.in_ok-expect.ensures) c.in_ok-op.ensures in
    let p = err_from_is_err_and c.from_residual-in_err-expect-2.result c.from_residual-in_err-expect-2.ensures.1 in
    rw (p.1, p.2) (fails_any _ _ s c.in_err-expect-2.ensures (λ _. done_completes c.in_ok-op.op))

pub returns : goal.returns
returns c = done (next_any (next_any (next_any {N = Bracketed} (here _) c.in_ok-expect.ensures) c.in_ok-op.ensures) c.in_ok-expect-2.ensures)
