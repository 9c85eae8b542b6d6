use Rattle.std.proofs.Common.{[], ◌∷◌}
use Rattle.std.proofs.lemmas.Result.{err_from_is_err_and}
use Rattle.kt_read.specs.Follows.{after_expression}
use Rattle.kt_read.specs.ArgumentResiduals.{after_arguments}
use Rattle.kt_read.proofs.ArgumentSteps.{more_args_follow, more_args_complete, no_args_read, args_here}
use Rattle.kt_read.proofs.Still.{next, fails, answers}
use Rattle.kt_read.proofs.reader.arguments.arguments.Goals as goal

pub returns-then-is : goal.returns-then-is
returns-then-is c =
    rw c.new.ensures (no_args_read _ (c.is.ensures.0 c.if-is.true))

pub returns-in_err-first : goal.returns-in_err-first
returns-in_err-first c =
    let s0 = args_here _ (λ e. cc (c.is.ensures.1 e, c.if-is.false)) in
    let p = err_from_is_err_and c.from_residual.result c.from_residual.ensures.1 in
    rw (p.1, p.2) (fails after_expression _ _ s0 c.in_err-first.ensures (λ a. more_args_follow (a ∷ [])) (λ a. more_args_complete (a ∷ [])))

pub returns : goal.returns
returns c =
    let s0 = args_here _ (λ e. cc (c.is.ensures.1 e, c.if-is.false)) in
    answers after_arguments _ _ (next s0 c.in_ok-first.ensures (λ a. more_args_follow (a ∷ []))) c.arguments_behind.ensures (λ us h. h)
