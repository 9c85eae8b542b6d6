use Rattle.std.proofs.lemmas.Result.{err_from_is_err_and}
use Rattle.kt_tokens.proofs.Signs.{mark_is_token, sign_read, sign_refused, sign_deep}
use Rattle.kt_tokens.proofs.source.Source.expect.Goals as goal

pub returns-then-not-is : goal.returns-then-not-is
returns-then-not-is c = sign_refused _ _ (λ e. cc (c.is.ensures.1 e, c.if-not-is.true))

pub returns-in_err-advance : goal.returns-in_err-advance
returns-in_err-advance c =
    let p = err_from_is_err_and c.from_residual.result c.from_residual.ensures.1 in
    let q = c.in_err-advance.ensures in
    rw (p.1, p.2, q.0, q.1) (sign_deep _ _ (c.is.ensures.0 c.if-not-is.false) q.2)

pub returns : goal.returns
returns c =
    let q = c.in_ok-advance.ensures in
    let e = c.is.ensures.0 c.if-not-is.false in
    rw c.next.ensures (sign_read _ _ _ e (record { behind = q.0; is_token = mark_is_token _ _ e; fits = q.1 }))
