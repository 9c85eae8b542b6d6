use Rattle.std.proofs.lemmas.Result.{err_from_is_err_and}
use Rattle.kt_read.specs.declared.reader.declarations.Declared.TheVariants as D
use Rattle.kt_read.proofs.DeclarationSteps.{family_alone, loop_alone, main_alone, task_alone}
use Rattle.kt_read.proofs.Completing.{done_completes}
use Rattle.kt_read.proofs.Still.{done, fails_any, next_any}
use Rattle.kt_read.proofs.reader.declarations.declaration.Goals as goal

pub returns-in_err-family : goal.returns-in_err-family
returns-in_err-family c =
    let s = family_alone _ (c.is.ensures.0 c.if-is.true) in
    let p = err_from_is_err_and c.from_residual.result c.from_residual.ensures.1 in
    rw (p.1, p.2) (fails_any _ _ s c.in_err-family.ensures (λ f. done_completes (D.Family f)))

pub returns-then-is : goal.returns-then-is
returns-then-is c = done (next_any (family_alone _ (c.is.ensures.0 c.if-is.true)) c.in_ok-family.ensures)

pub returns-in_err-task : goal.returns-in_err-task
returns-in_err-task c =
    let s = task_alone _ (c.is-2.ensures.0 c.if-is-2.true) in
    let p = err_from_is_err_and c.from_residual-in_err-task.result c.from_residual-in_err-task.ensures.1 in
    rw (p.1, p.2) (fails_any _ _ s c.in_err-task.ensures (λ t. done_completes (D.Task t)))

pub returns-then-is-2 : goal.returns-then-is-2
returns-then-is-2 c = done (next_any (task_alone _ (c.is-2.ensures.0 c.if-is-2.true)) c.in_ok-task.ensures)

pub returns-in_err-loop_task : goal.returns-in_err-loop_task
returns-in_err-loop_task c =
    let s = loop_alone _ (c.is-3.ensures.0 c.if-is-3.true) in
    let p = err_from_is_err_and c.from_residual-in_err-loop_task.result c.from_residual-in_err-loop_task.ensures.1 in
    rw (p.1, p.2) (fails_any _ _ s c.in_err-loop_task.ensures (λ t. done_completes (D.Task t)))

pub returns-then-is-3 : goal.returns-then-is-3
returns-then-is-3 c = done (next_any (loop_alone _ (c.is-3.ensures.0 c.if-is-3.true)) c.in_ok-loop_task.ensures)

pub returns-in_err-main : goal.returns-in_err-main
returns-in_err-main c =
    let s = main_alone c.args.source.now (λ e. cc (c.is.ensures.1 e, c.if-is.false)) (λ e. cc (c.is-2.ensures.1 e, c.if-is-2.false)) (λ e. cc (c.is-3.ensures.1 e, c.if-is-3.false)) in
    let p = err_from_is_err_and c.from_residual-in_err-main.result c.from_residual-in_err-main.ensures.1 in
    rw (p.1, p.2) (fails_any _ _ s c.in_err-main.ensures (λ m. done_completes (D.Main m)))

pub returns : goal.returns
returns c =
    let s = main_alone c.args.source.now (λ e. cc (c.is.ensures.1 e, c.if-is.false)) (λ e. cc (c.is-2.ensures.1 e, c.if-is-2.false)) (λ e. cc (c.is-3.ensures.1 e, c.if-is-3.false)) in
    done (next_any s c.in_ok-main.ensures)
