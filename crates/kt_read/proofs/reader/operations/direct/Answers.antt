use Rattle.std.proofs.Common.{sym, ◌∙◌}
use Rattle.std.proofs.lemmas.Result.{err_from_is_err_and}
use Rattle.kt_read.specs.DeclarationParts.{Placed}
use Rattle.kt_read.specs.Operators.{direct_of}
use Rattle.kt_read.specs.Programs.{ReadsDirect}
use Rattle.kt_read.proofs.OneTokens.{named_token, token_deep, token_read}
use Rattle.kt_read.proofs.OperationSteps.{cw_end, cw_here, cw_op_end, direct_only, direct_there}
use Rattle.kt_read.proofs.Still.{done, fails_any, next_any}
use Rattle.kt_read.proofs.reader.operations.direct.Goals as goal

pub returns-in_err-advance-in-Some : goal.returns-in_err-advance-in-Some
returns-in_err-advance-in-Some c =
    let p = err_from_is_err_and c.from_residual.result c.from_residual.ensures.1 in
    let q = c.in_err-advance-in-Some.ensures in
    let e = sym c.next_direct.ensures ∙ c.in-Some.is in
    rw (p.1, p.2, q.0, q.1) (token_deep (Placed ReadsDirect) _ _ (direct_there _ _ e) (named_token direct_of _ _ e) q.2)

pub returns-in_ok-advance-in-Some : goal.returns-in_ok-advance-in-Some
returns-in_ok-advance-in-Some c =
    let q = c.in_ok-advance-in-Some.ensures in
    let e = sym c.next_direct.ensures ∙ c.in-Some.is in
    rw c.next.ensures (token_read (Placed ReadsDirect) _ _ _ (record { behind = q.0; is_token = named_token direct_of _ _ e; fits = q.1 }) (direct_there _ _ e)
    (λ b more rest x. direct_only _ b _ more rest x e))

pub returns-in_err-place-in-None : goal.returns-in_err-place-in-None
returns-in_err-place-in-None c =
    let s = cw_here _ (sym c.next_direct.ensures ∙ c.in-None.is) in
    let p = err_from_is_err_and c.from_residual-in_err-place-in-None.result c.from_residual-in_err-place-in-None.ensures.1 in
    rw (p.1, p.2) (fails_any _ _ s c.in_err-place-in-None.ensures cw_op_end)

pub returns-in_err-op-in-None : goal.returns-in_err-op-in-None
returns-in_err-op-in-None c =
    let s = next_any (cw_here _ (sym c.next_direct.ensures ∙ c.in-None.is)) c.in_ok-place-in-None.ensures in
    let p = err_from_is_err_and c.from_residual-in_err-op-in-None.result c.from_residual-in_err-op-in-None.ensures.1 in
    rw (p.1, p.2) (fails_any _ _ s c.in_err-op-in-None.ensures (cw_end c.in_ok-place-in-None.place))

pub returns-in_ok-op-in-None : goal.returns-in_ok-op-in-None
returns-in_ok-op-in-None c =
    done (next_any (next_any (cw_here _ (sym c.next_direct.ensures ∙ c.in-None.is)) c.in_ok-place-in-None.ensures) c.in_ok-op-in-None.ensures)
