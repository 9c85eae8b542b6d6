use Rattle.std.proofs.Common.{Some, None}
use Rattle.std.proofs.lemmas.Result.{err_from_is_err_and}
use Rattle.kt_read.specs.ArgumentResiduals.{after_arguments}
use Rattle.kt_read.proofs.ArgumentSteps.{forked_of, all_here, args_follow, length_here, length_completes, span_refused}
use Rattle.kt_read.proofs.Completing.{done_completes}
use Rattle.kt_read.proofs.Still.{next, done, fails, next_any, fails_any}
use Rattle.kt_read.proofs.reader.arguments.forked_behind.Goals as goal

pub returns-in_err-args : goal.returns-in_err-args
returns-in_err-args c =
    let s0 = all_here c.args.first _ (λ e. cc (c.is.ensures.1 e, c.if-not-is.true)) in
    let p = err_from_is_err_and c.from_residual.result c.from_residual.ensures.1 in
    rw (p.1, p.2) (fails after_arguments _ _ s0 c.in_err-args.ensures (λ args. args_follow (forked_of None args)) (λ args. done_completes (forked_of None args)))

pub returns-then-not-is : goal.returns-then-not-is
returns-then-not-is c =
    let s0 = all_here c.args.first _ (λ e. cc (c.is.ensures.1 e, c.if-not-is.true)) in
    done (next s0 c.in_ok-args.ensures (λ args. args_follow (forked_of None args)))

pub returns-in_default : goal.returns-in_default
returns-in_default c =
    span_refused _ _ (c.is.ensures.0 c.if-not-is.false) (λ e w. c.in_default.not-Value e w)

pub returns-in_err-expect : goal.returns-in_err-expect
returns-in_err-expect c =
    let s0 = length_here c.args.first c.in-Value.length _ c.in-Value.is (c.is.ensures.0 c.if-not-is.false) in
    let p = err_from_is_err_and c.from_residual-in_err-expect.result c.from_residual-in_err-expect.ensures.1 in
    rw (p.1, p.2) (fails_any _ _ s0 c.in_err-expect.ensures (λ x. length_completes c.in-Value.length))

pub returns-in_err-args-2 : goal.returns-in_err-args-2
returns-in_err-args-2 c =
    let s0 = length_here c.args.first c.in-Value.length _ c.in-Value.is (c.is.ensures.0 c.if-not-is.false) in
    let s1 = next_any s0 c.in_ok-expect.ensures in
    let p = err_from_is_err_and c.from_residual-in_err-args-2.result c.from_residual-in_err-args-2.ensures.1 in
    rw (p.1, p.2) (fails after_arguments _ _ s1 c.in_err-args-2.ensures (λ args. args_follow (forked_of (Some c.in-Value.length) args)) (λ args. done_completes (forked_of (Some c.in-Value.length) args)))

pub returns : goal.returns
returns c =
    let s0 = length_here c.args.first c.in-Value.length _ c.in-Value.is (c.is.ensures.0 c.if-not-is.false) in
    let s1 = next_any s0 c.in_ok-expect.ensures in
    let r = done (next s1 c.in_ok-args-2.ensures (λ args. args_follow (forked_of (Some c.in-Value.length) args))) in rw c.in-Value.is (rw c.in-Value.is at r)
