use Rattle.std.proofs.lemmas.Result.{err_from_is_err_and}
use Rattle.std.proofs.Common.{subst, Err}
use Rattle.kt_tokens.specs.Reading.{Answers, Reads}
use Rattle.kt_read.specs.Residuals.{AfterAtom}
use Rattle.kt_read.specs.Follows.{after_expression}
use Rattle.kt_prog.specs.declared.programs.Expr.{Elem}
use Rattle.kt_read.proofs.ArgumentSteps.{valued, spanned, index_follow, index_completes, span_left, span_completes, element_left, valued_completes, valued_follow}
use Rattle.kt_read.proofs.Completing.{done_completes}
use Rattle.kt_read.proofs.Still.{here, next, done, fails, next_any, fails_any}
use Rattle.kt_read.proofs.reader.arguments.argument_in_square.Goals as goal

pub returns-in_err-at : goal.returns-in_err-at
returns-in_err-at c =
    let p = err_from_is_err_and c.from_residual.result c.from_residual.ensures.1 in
    rw (p.1, p.2) (fails after_expression _ _ (here _) c.in_err-at.ensures (λ i a vs us k h. index_follow c.args.name c.args.place i a vs us k) (λ i. index_completes c.args.name c.args.place i))

pub returns-in_err-expect : goal.returns-in_err-expect
returns-in_err-expect c =
    let s1 = next (here _) c.in_ok-at.ensures (λ i a vs us k h. index_follow c.args.name c.args.place i a vs us k) in
    let s2 = span_left c.in_ok-at.at s1 (c.is.ensures.0 c.if-is.true) in
    let p = err_from_is_err_and c.from_residual-in_err-expect.result c.from_residual-in_err-expect.ensures.1 in
    rw (p.1, p.2) (fails_any _ _ s2 c.in_err-expect.ensures (λ x. span_completes c.args.name c.args.place c.in_ok-at.at))

pub returns-in_err-end : goal.returns-in_err-end
returns-in_err-end c =
    let s1 = next (here _) c.in_ok-at.ensures (λ i a vs us k h. index_follow c.args.name c.args.place i a vs us k) in
    let s2 = span_left c.in_ok-at.at s1 (c.is.ensures.0 c.if-is.true) in
    let s3 = next_any s2 c.in_ok-expect.ensures in
    let p = err_from_is_err_and c.from_residual-in_err-end.result c.from_residual-in_err-end.ensures.1 in
    rw (p.1, p.2) (fails_any _ _ s3 c.in_err-end.ensures (λ b. done_completes (spanned c.args.name c.args.place c.in_ok-at.at b)))

pub returns-then-is : goal.returns-then-is
returns-then-is c =
    let s1 = next (here _) c.in_ok-at.ensures (λ i a vs us k h. index_follow c.args.name c.args.place i a vs us k) in
    let s2 = span_left c.in_ok-at.at s1 (c.is.ensures.0 c.if-is.true) in
    let s3 = next_any s2 c.in_ok-expect.ensures in
    done (next_any s3 c.in_ok-end.ensures)

pub returns-in_err-expect-2 : goal.returns-in_err-expect-2
returns-in_err-expect-2 c =
    let s1 = next (here _) c.in_ok-at.ensures (λ i a vs us k h. index_follow c.args.name c.args.place i a vs us k) in
    let s2 = element_left c.in_ok-at.at s1 (λ e. cc (c.is.ensures.1 e, c.if-is.false)) in
    let p = err_from_is_err_and c.from_residual-in_err-expect-2.result c.from_residual-in_err-expect-2.ensures.1 in
    rw (p.1, p.2) (fails_any _ _ s2 c.in_err-expect-2.ensures (λ x. valued_completes c.args.place (Elem c.args.name c.args.place c.in_ok-at.at)))

pub returns-in_err-value : goal.returns-in_err-value
returns-in_err-value c =
    let s1 = next (here _) c.in_ok-at.ensures (λ i a vs us k h. index_follow c.args.name c.args.place i a vs us k) in
    let s2 = element_left c.in_ok-at.at s1 (λ e. cc (c.is.ensures.1 e, c.if-is.false)) in
    let s3 = next_any s2 c.in_ok-expect-2.ensures in
    let h = subst (λ x. Answers (AfterAtom x) after_expression c.expect-2.new.self c.expression_behind.new.source (Err c.in_err-value.field-0.0)) c.in_ok-first.ensures c.in_err-value.ensures in
    let p = err_from_is_err_and c.from_residual-in_err-value.result c.from_residual-in_err-value.ensures.1 in
    rw (p.1, p.2) (fails after_expression _ _ s3 h (λ e. valued_follow c.args.place e) (λ e. done_completes (valued c.args.place e)))

pub returns : goal.returns
returns c =
    let s1 = next (here _) c.in_ok-at.ensures (λ i a vs us k h. index_follow c.args.name c.args.place i a vs us k) in
    let s2 = element_left c.in_ok-at.at s1 (λ e. cc (c.is.ensures.1 e, c.if-is.false)) in
    let s3 = next_any s2 c.in_ok-expect-2.ensures in
    let h = subst (λ x. Reads (AfterAtom x) after_expression c.expect-2.new.self c.expression_behind.new.source c.in_ok-value.value) c.in_ok-first.ensures c.in_ok-value.ensures in
    done (next s3 h (λ e. valued_follow c.args.place e))
