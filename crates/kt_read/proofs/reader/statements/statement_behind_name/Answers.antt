use Rattle.std.proofs.lemmas.Result.{err_from_is_err_and}
use Rattle.kt_tokens.specs.Reading.{any}
use Rattle.kt_read.proofs.StatementSteps.{element_completes, set_here, set_completes, index_here, index_completes}
use Rattle.kt_read.proofs.Completing.{done_completes}
use Rattle.kt_read.proofs.Still.{done, adds, next_any, fails_any}
use Rattle.kt_read.proofs.reader.statements.statement_behind_name.Goals as goal

pub returns-in_err-expect : goal.returns-in_err-expect
returns-in_err-expect c =
    let s0 = set_here c.args.name c.args.place _ (c.is.ensures.0 c.if-is.true) in
    let p = err_from_is_err_and c.from_residual.result c.from_residual.ensures.1 in
    rw (p.1, p.2) (fails_any _ _ s0 c.in_err-expect.ensures (λ x. set_completes c.args.name c.args.place))

pub returns-in_err-value : goal.returns-in_err-value
returns-in_err-value c =
    let s0 = set_here c.args.name c.args.place _ (c.is.ensures.0 c.if-is.true) in
    let s1 = next_any s0 c.in_ok-expect.ensures in
    let p = err_from_is_err_and c.from_residual-in_err-value.result c.from_residual-in_err-value.ensures.1 in
    rw (p.1, p.2) (fails_any _ _ s1 c.in_err-value.ensures (λ e. done_completes _))

pub returns-then-is : goal.returns-then-is
returns-then-is c =
    let s0 = set_here c.args.name c.args.place _ (c.is.ensures.0 c.if-is.true) in
    let s1 = next_any s0 c.in_ok-expect.ensures in
    (_, c.in_ok-add.ensures, done (next_any s1 c.in_ok-value.ensures))

pub returns-in_err-expect-2 : goal.returns-in_err-expect-2
returns-in_err-expect-2 c =
    let s0 = index_here c.args.name c.args.place _ (λ e. cc (c.is.ensures.1 e, c.if-is.false)) in
    let p = err_from_is_err_and c.from_residual-in_err-expect-2.result c.from_residual-in_err-expect-2.ensures.1 in
    rw (p.1, p.2) (fails_any _ _ s0 c.in_err-expect-2.ensures (λ x. index_completes c.args.name c.args.place))

pub returns-in_err-at : goal.returns-in_err-at
returns-in_err-at c =
    let s0 = index_here c.args.name c.args.place _ (λ e. cc (c.is.ensures.1 e, c.if-is.false)) in
    let s1 = next_any s0 c.in_ok-expect-2.ensures in
    let p = err_from_is_err_and c.from_residual-in_err-at.result c.from_residual-in_err-at.ensures.1 in
    rw (p.1, p.2) (fails_any _ _ s1 c.in_err-at.ensures (element_completes c.args.name c.args.place))

pub returns : goal.returns
returns c =
    let s0 = index_here c.args.name c.args.place _ (λ e. cc (c.is.ensures.1 e, c.if-is.false)) in
    let s1 = next_any s0 c.in_ok-expect-2.ensures in
    adds any _ _ _ _ (next_any s1 c.in_ok-at.ensures) c.statement_behind_element.ensures (λ us h. h)
