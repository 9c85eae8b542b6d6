use Rattle.std.proofs.lemmas.Result.{err_from_is_err_and}
use Rattle.kt_read.proofs.DeclarationSteps.{main_at, main_body_end, main_here}
use Rattle.kt_read.proofs.Completing.{done_completes}
use Rattle.kt_read.proofs.Still.{done, fails_any, next_any}
use Rattle.kt_read.proofs.reader.declarations.main.Goals as goal

pub returns-in_err-place : goal.returns-in_err-place
returns-in_err-place c =
    let p = err_from_is_err_and c.from_residual.result c.from_residual.ensures.1 in
    rw (p.1, p.2) (fails_any _ _ (main_here _) c.in_err-place.ensures main_body_end)

pub returns-in_err-body : goal.returns-in_err-body
returns-in_err-body c =
    let s = next_any (main_here _) c.in_ok-place.ensures in
    let p = err_from_is_err_and c.from_residual-in_err-body.result c.from_residual-in_err-body.ensures.1 in
    rw (p.1, p.2) (fails_any _ _ s c.in_err-body.ensures.answers (λ body. done_completes (main_at c.in_ok-place.place body)))

pub returns : goal.returns
returns c = done (next_any (next_any (main_here _) c.in_ok-place.ensures) c.in_ok-body.ensures.answers)
