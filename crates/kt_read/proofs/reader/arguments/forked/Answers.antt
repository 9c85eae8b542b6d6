use Rattle.std.proofs.lemmas.Result.{err_from_is_err_and}
use Rattle.kt_read.specs.Follows.{after_expression}
use Rattle.kt_read.specs.ArgumentResiduals.{after_arguments}
use Rattle.kt_read.proofs.ArgumentSteps.{nothing_read, forked_here, first_follow, first_completes}
use Rattle.kt_read.proofs.Still.{next, fails, answers}
use Rattle.kt_read.proofs.reader.arguments.forked.Goals as goal

pub returns-then-is : goal.returns-then-is
returns-then-is c =
    rw c.new.ensures (nothing_read _ (c.is.ensures.0 c.if-is.true))

pub returns-in_err-first : goal.returns-in_err-first
returns-in_err-first c =
    let s0 = forked_here _ (λ e. cc (c.is.ensures.1 e, c.if-is.false)) in
    let p = err_from_is_err_and c.from_residual.result c.from_residual.ensures.1 in
    rw (p.1, p.2) (fails after_expression _ _ s0 c.in_err-first.ensures first_follow first_completes)

pub returns : goal.returns
returns c =
    let s0 = forked_here _ (λ e. cc (c.is.ensures.1 e, c.if-is.false)) in
    answers after_arguments _ _ (next s0 c.in_ok-first.ensures first_follow) c.forked_behind.ensures (λ us h. h)
