use Rattle.std.proofs.Common.{[], ◌∷◌, ◌++◌, arith}
use Rattle.std.proofs.lemmas.Result.{err_from_is_err_and}
use Rattle.kt_read.specs.DeclarationParts.{not_square}
use Rattle.kt_read.proofs.ParamSteps.{first_here, further_completes, further_here, left_completes, left_follows, no_params_read, params_end}
use Rattle.kt_read.proofs.Shrinking.{reads_left, sign_falls}
use Rattle.kt_read.proofs.Still.{fails, fails_any, next, next_any}
use Rattle.kt_read.proofs.reader.params.params.Goals as goal

pub returns-then-is : goal.returns-then-is
returns-then-is c = rw c.new-params.ensures (no_params_read _ (c.is.ensures.0 c.if-is.true))

pub returns-in_err-first : goal.returns-in_err-first
returns-in_err-first c =
    let s = first_here c.args.source.now (λ e. cc (c.is.ensures.1 e, c.if-is.false)) in
    let p = err_from_is_err_and c.from_residual.result c.from_residual.ensures.1 in
    rw (p.1, p.2) (fails not_square _ _ s c.in_err-first.ensures (λ x a vs us l h. left_follows l h) (λ x. left_completes (x ∷ [])))

pub each-init : goal.each-init
each-init c =
    rw (c.in_ok-push.ensures.ok, c.new-params.ensures) (next (first_here c.args.source.now (λ e. cc (c.is.ensures.1 e, c.if-is.false))) c.in_ok-first.ensures (λ x a vs us l h. left_follows l h))

pub returns-in_err-expect : goal.returns-in_err-expect
returns-in_err-expect c =
    let s = further_here c.each.invariant (c.is-in-each.ensures.0 c.each-test.true) in
    let p = err_from_is_err_and c.from_residual-in_err-expect.result c.from_residual-in_err-expect.ensures.1 in
    rw (p.1, p.2) (fails_any _ _ s c.in_err-expect.ensures (λ _. further_completes c.each.params))

pub returns-in_err-next : goal.returns-in_err-next
returns-in_err-next c =
    let s = next_any (further_here c.each.invariant (c.is-in-each.ensures.0 c.each-test.true)) c.in_ok-expect.ensures in
    let p = err_from_is_err_and c.from_residual-in_err-next.result c.from_residual-in_err-next.ensures.1 in
    rw (p.1, p.2) (fails not_square _ _ s c.in_err-next.ensures (λ x a vs us l h. left_follows l h) (λ x. left_completes (c.each.params ++ x ∷ [])))

pub each-preserved : goal.each-preserved
each-preserved c =
    let s = next_any (further_here c.each.invariant (c.is-in-each.ensures.0 c.each-test.true)) c.in_ok-expect.ensures in
    rw c.in_ok-push-2.ensures.ok (next s c.in_ok-next.ensures (λ x a vs us l h. left_follows l h))

pub each-smaller : goal.each-smaller
each-smaller c =
    let f = sign_falls c.in_ok-expect.ensures in
    let g = reads_left c.in_ok-next.ensures in
    omega (arith, f, g)

pub returns : goal.returns
returns c = params_end c.each.invariant (λ e. cc (c.is-in-each.ensures.1 e, c.each-test.false))
