use Rattle.std.proofs.lemmas.Result.{err_from_is_err_and}
use Rattle.kt_read.proofs.ParamSteps.{no_squares_read, square_end, squares_here}
use Rattle.kt_read.proofs.Completing.{done_completes}
use Rattle.kt_read.proofs.Still.{done, fails_any, next_any}
use Rattle.std.proofs.Common.{true}
use Rattle.kt_read.proofs.reader.params.squares.Goals as goal

pub returns-then-not-is : goal.returns-then-not-is
returns-then-not-is c = no_squares_read _ (λ e. cc (c.is.ensures.1 e, c.if-not-is.true))

pub returns-in_err-expect : goal.returns-in_err-expect
returns-in_err-expect c =
    let s = squares_here _ (c.is.ensures.0 c.if-not-is.false) in
    let p = err_from_is_err_and c.from_residual.result c.from_residual.ensures.1 in
    rw (p.1, p.2) (fails_any _ _ s c.in_err-expect.ensures (λ _. square_end))

pub returns-in_err-expect-2 : goal.returns-in_err-expect-2
returns-in_err-expect-2 c =
    let s = next_any (squares_here _ (c.is.ensures.0 c.if-not-is.false)) c.in_ok-expect.ensures in
    let p = err_from_is_err_and c.from_residual-in_err-expect-2.result c.from_residual-in_err-expect-2.ensures.1 in
    rw (p.1, p.2) (fails_any _ _ s c.in_err-expect-2.ensures (λ _. done_completes true))

pub returns : goal.returns
returns c = done (next_any (next_any (squares_here _ (c.is.ensures.0 c.if-not-is.false)) c.in_ok-expect.ensures) c.in_ok-expect-2.ensures)
