use Rattle.std.proofs.lemmas.Result.{err_from_is_err_and}
use Rattle.kt_tokens.specs.Reading.{any}
use Rattle.kt_read.specs.DeclarationParts.{TaskOf}
use Rattle.kt_read.proofs.DeclarationSteps.{outset_end, task_name_end, task_open_end}
use Rattle.std.proofs.Common.{None}
use Rattle.kt_read.proofs.Still.{answers, fails_any, here, next_any}
use Rattle.kt_read.proofs.reader.declarations.task.Goals as goal

pub returns-in_err-expect : goal.returns-in_err-expect
returns-in_err-expect c =
    let p = err_from_is_err_and c.from_residual.result c.from_residual.ensures.1 in
    rw (p.1, p.2) (fails_any {N = TaskOf} _ _ (here _) c.in_err-expect.ensures (λ _. task_name_end))

pub returns-in_err-name : goal.returns-in_err-name
returns-in_err-name c =
    let s = next_any {N = TaskOf} (here _) c.in_ok-expect.ensures in
    let p = err_from_is_err_and c.from_residual-in_err-name.result c.from_residual-in_err-name.ensures.1 in
    rw (p.1, p.2) (fails_any _ _ s c.in_err-name.ensures task_open_end)

pub returns-in_err-expect-2 : goal.returns-in_err-expect-2
returns-in_err-expect-2 c =
    let s = next_any (next_any {N = TaskOf} (here _) c.in_ok-expect.ensures) c.in_ok-name.ensures in
    let p = err_from_is_err_and c.from_residual-in_err-expect-2.result c.from_residual-in_err-expect-2.ensures.1 in
    rw (p.1, p.2) (fails_any _ _ s c.in_err-expect-2.ensures (λ _. outset_end (c.in_ok-name.name, c.in_ok-name.place) None))

pub returns : goal.returns
returns c =
    let s = next_any (next_any (next_any {N = TaskOf} (here _) c.in_ok-expect.ensures) c.in_ok-name.ensures) c.in_ok-expect-2.ensures in
    answers any _ _ s c.rest_of_task.ensures (λ us h. h)
