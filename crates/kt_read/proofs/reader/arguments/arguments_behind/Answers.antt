use Rattle.std.proofs.Common.{arith, [], ◌∷◌, ◌++◌}
use Rattle.std.proofs.lemmas.Result.{err_from_is_err_and}
use Rattle.kt_read.specs.Follows.{after_expression}
use Rattle.kt_read.specs.ArgumentResiduals.{MoreArgs}
use Rattle.kt_read.proofs.ArgumentSteps.{comma_left, arg_completes, more_args_follow, more_args_complete, args_end}
use Rattle.kt_read.proofs.Shrinking.{reads_left, sign_falls}
use Rattle.kt_read.proofs.Still.{here, next, fails, next_any, fails_any}
use Rattle.kt_read.proofs.reader.arguments.arguments_behind.Goals as goal

pub more-init : goal.more-init
more-init c =
    rw (c.in_ok-add.ensures, c.new-args.ensures.items) (here _)

pub returns-in_err-expect : goal.returns-in_err-expect
returns-in_err-expect c =
    let s0 = comma_left _ c.more.invariant (c.is.ensures.0 c.more-test.true) in
    let p = err_from_is_err_and c.from_residual-in_err-expect.result c.from_residual-in_err-expect.ensures.1 in
    rw (p.1, p.2) (fails_any _ _ s0 c.in_err-expect.ensures (λ x. arg_completes (λ a. MoreArgs (c.more.args.items ++ a ∷ [])) (more_args_complete _)))

pub returns-in_err-arg : goal.returns-in_err-arg
returns-in_err-arg c =
    let s0 = comma_left _ c.more.invariant (c.is.ensures.0 c.more-test.true) in
    let s1 = next_any s0 c.in_ok-expect.ensures in
    let p = err_from_is_err_and c.from_residual-in_err-arg.result c.from_residual-in_err-arg.ensures.1 in
    rw (p.1, p.2) (fails after_expression _ _ s1 c.in_err-arg.ensures (λ a. more_args_follow (c.more.args.items ++ a ∷ [])) (λ a. more_args_complete (c.more.args.items ++ a ∷ [])))

pub more-preserved : goal.more-preserved
more-preserved c =
    let s0 = comma_left _ c.more.invariant (c.is.ensures.0 c.more-test.true) in
    let s1 = next_any s0 c.in_ok-expect.ensures in
    rw c.in_ok-add-2.ensures (next s1 c.in_ok-arg.ensures (λ a. more_args_follow (c.more.args.items ++ a ∷ [])))

pub more-smaller : goal.more-smaller
more-smaller c =
    let f = sign_falls c.in_ok-expect.ensures in
    let g = reads_left c.in_ok-arg.ensures in
    omega (arith, f, g)

pub returns : goal.returns
returns c =
    rw c.from_vec.ensures (args_end _ c.more.invariant (λ e. cc (c.is.ensures.1 e, c.more-test.false)))
