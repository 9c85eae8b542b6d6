use Rattle.std.proofs.lemmas.Result.{err_from_is_err_and}
use Rattle.kt_read.specs.Follows.{after_atom, after_expression}
use Rattle.kt_read.proofs.ArgumentSteps.{valued, valued_completes, valued_follow, open_here, square_completes, in_value_here, in_value_follow}
use Rattle.kt_read.proofs.Completing.{done_completes}
use Rattle.kt_read.proofs.Still.{next, done, fails, answers, next_any, fails_any}
use Rattle.kt_read.proofs.reader.arguments.argument_behind_name.Goals as goal

pub returns-in_err-expect : goal.returns-in_err-expect
returns-in_err-expect c =
    let s0 = open_here c.args.name c.args.place _ (c.is.ensures.0 c.if-is.true) in
    let p = err_from_is_err_and c.from_residual.result c.from_residual.ensures.1 in
    rw (p.1, p.2) (fails_any _ _ s0 c.in_err-expect.ensures (λ x. square_completes c.args.name c.args.place))

pub returns-then-is : goal.returns-then-is
returns-then-is c =
    let s0 = open_here c.args.name c.args.place _ (c.is.ensures.0 c.if-is.true) in
    answers after_expression _ _ (next_any s0 c.in_ok-expect.ensures) c.argument_in_square.ensures (λ us h. h)

pub returns-in_err-first : goal.returns-in_err-first
returns-in_err-first c =
    let s0 = in_value_here c.args.name c.args.place _ (λ e. cc (c.is.ensures.1 e, c.if-is.false)) in
    let p = err_from_is_err_and c.from_residual-in_err-first.result c.from_residual-in_err-first.ensures.1 in
    rw (p.1, p.2) (fails after_atom _ _ s0 c.in_err-first.ensures (λ b. in_value_follow c.args.place b) (λ b. valued_completes c.args.place b))

pub returns-in_err-value : goal.returns-in_err-value
returns-in_err-value c =
    let s0 = in_value_here c.args.name c.args.place _ (λ e. cc (c.is.ensures.1 e, c.if-is.false)) in
    let s1 = next s0 c.in_ok-first.ensures (λ b. in_value_follow c.args.place b) in
    let p = err_from_is_err_and c.from_residual-in_err-value.result c.from_residual-in_err-value.ensures.1 in
    rw (p.1, p.2) (fails after_expression _ _ s1 c.in_err-value.ensures (λ e. valued_follow c.args.place e) (λ e. done_completes (valued c.args.place e)))

pub returns : goal.returns
returns c =
    let s0 = in_value_here c.args.name c.args.place _ (λ e. cc (c.is.ensures.1 e, c.if-is.false)) in
    let s1 = next s0 c.in_ok-first.ensures (λ b. in_value_follow c.args.place b) in
    done (next s1 c.in_ok-value.ensures (λ e. valued_follow c.args.place e))
