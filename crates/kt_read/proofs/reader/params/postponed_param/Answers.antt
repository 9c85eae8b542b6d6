use Rattle.std.proofs.lemmas.Result.{err_from_is_err_and}
use Rattle.kt_read.specs.DeclarationParts.{PostponedParam, not_square}
use Rattle.kt_read.proofs.ParamSteps.{many_end, postponed_name_end, postponed_squares_end}
use Rattle.kt_read.proofs.Still.{done, fails, fails_any, here, next, next_any}
use Rattle.kt_read.proofs.OneTokens.{done_follows}
use Rattle.kt_read.proofs.reader.params.postponed_param.Goals as goal

pub returns-in_err-mode : goal.returns-in_err-mode
returns-in_err-mode c =
    let p = err_from_is_err_and c.from_residual.result c.from_residual.ensures.1 in
    rw (p.1, p.2) (fails_any {N = PostponedParam} _ _ (here _) c.in_err-mode.ensures postponed_name_end)

pub returns-in_err-name : goal.returns-in_err-name
returns-in_err-name c =
    let s = next_any {N = PostponedParam} (here _) c.in_ok-mode.ensures in
    let p = err_from_is_err_and c.from_residual-in_err-name.result c.from_residual-in_err-name.ensures.1 in
    rw (p.1, p.2) (fails_any _ _ s c.in_err-name.ensures (postponed_squares_end (c.in_ok-mode.mode, c.in_ok-mode.place)))

pub returns-in_err-many : goal.returns-in_err-many
returns-in_err-many c =
    let s = next_any (next_any {N = PostponedParam} (here _) c.in_ok-mode.ensures) c.in_ok-name.ensures in
    let p = err_from_is_err_and c.from_residual-in_err-many.result c.from_residual-in_err-many.ensures.1 in
    rw (p.1, p.2) (fails not_square _ _ s c.in_err-many.ensures (λ x a vs us d h. done_follows not_square d h) (many_end (c.in_ok-mode.mode, c.in_ok-mode.place) (c.in_ok-name.name, c.in_ok-name.name_place)))

pub returns : goal.returns
returns c =
    let s = next_any (next_any {N = PostponedParam} (here _) c.in_ok-mode.ensures) c.in_ok-name.ensures in
    rw c.one_or_many.ensures (done (next s c.in_ok-many.ensures (λ x a vs us d h. done_follows not_square d h)))
