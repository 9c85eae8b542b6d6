use Rattle.std.proofs.lemmas.Result.{err_from_is_err_and}
use Rattle.kt_read.specs.DeclarationParts.{Outset, closing}
use Rattle.kt_read.proofs.DeclarationSteps.{params_follow, task_at, task_body_end, task_close_end}
use Rattle.kt_read.proofs.Completing.{done_completes}
use Rattle.kt_read.proofs.Still.{done, fails, fails_any, here, next, next_any}
use Rattle.kt_read.proofs.reader.declarations.rest_of_task.Goals as goal

pub returns-in_err-params : goal.returns-in_err-params
returns-in_err-params c =
    let p = err_from_is_err_and c.from_residual.result c.from_residual.ensures.1 in
    rw (p.1, p.2) (fails {N = Outset (c.args.name, c.args.place) c.args.index} closing _ _ (here _) c.in_err-params.ensures (λ x a vs us k h. params_follow k.2)
    (λ params. task_close_end (c.args.name, c.args.place) c.args.index params))

pub returns-in_err-expect : goal.returns-in_err-expect
returns-in_err-expect c =
    let s = next {N = Outset (c.args.name, c.args.place) c.args.index} (here _) c.in_ok-params.ensures (λ x a vs us k h. params_follow k.2) in
    let p = err_from_is_err_and c.from_residual-in_err-expect.result c.from_residual-in_err-expect.ensures.1 in
    rw (p.1, p.2) (fails_any _ _ s c.in_err-expect.ensures (λ _. task_body_end (c.args.name, c.args.place) c.args.index c.in_ok-params.params))

pub returns-in_err-body : goal.returns-in_err-body
returns-in_err-body c =
    let s = next {N = Outset (c.args.name, c.args.place) c.args.index} (here _) c.in_ok-params.ensures (λ x a vs us k h. params_follow k.2) in
    let p = err_from_is_err_and c.from_residual-in_err-body.result c.from_residual-in_err-body.ensures.1 in
    rw (p.1, p.2) (fails_any _ _ (next_any s c.in_ok-expect.ensures) c.in_err-body.ensures.answers
    (λ body. done_completes (task_at (c.args.name, c.args.place) c.args.index c.in_ok-params.params body)))

pub returns : goal.returns
returns c =
    let s = next {N = Outset (c.args.name, c.args.place) c.args.index} (here _) c.in_ok-params.ensures (λ x a vs us k h. params_follow k.2) in
    done (next_any (next_any s c.in_ok-expect.ensures) c.in_ok-body.ensures.answers)
