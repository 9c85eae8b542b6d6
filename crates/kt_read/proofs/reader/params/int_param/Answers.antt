use Rattle.std.proofs.lemmas.Result.{err_from_is_err_and}
use Rattle.kt_read.specs.DeclarationParts.{IntParam}
use Rattle.kt_read.proofs.ParamSteps.{int_end, int_name_end}
use Rattle.kt_read.proofs.Still.{done, fails_any, here, next_any}
use Rattle.kt_read.proofs.reader.params.int_param.Goals as goal

pub returns-in_err-place : goal.returns-in_err-place
returns-in_err-place c =
    let p = err_from_is_err_and c.from_residual.result c.from_residual.ensures.1 in
    rw (p.1, p.2) (fails_any {N = IntParam} _ _ (here _) c.in_err-place.ensures int_name_end)

pub returns-in_err-name : goal.returns-in_err-name
returns-in_err-name c =
    let s = next_any {N = IntParam} (here _) c.in_ok-place.ensures in
    let p = err_from_is_err_and c.from_residual-in_err-name.result c.from_residual-in_err-name.ensures.1 in
    rw (p.1, p.2) (fails_any _ _ s c.in_err-name.ensures (int_end c.in_ok-place.place))

pub returns : goal.returns
returns c = done (next_any (next_any {N = IntParam} (here _) c.in_ok-place.ensures) c.in_ok-name.ensures)
