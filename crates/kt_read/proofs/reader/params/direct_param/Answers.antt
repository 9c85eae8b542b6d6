use Rattle.std.proofs.lemmas.Result.{err_from_is_err_and}
use Rattle.kt_prog.specs.declared.programs.Sort.TheVariants.{One}
use Rattle.kt_read.specs.DeclarationParts.{DirectParam, param_at}
use Rattle.kt_read.proofs.ParamSteps.{direct_name_end}
use Rattle.kt_read.proofs.Completing.{done_completes}
use Rattle.kt_read.proofs.Still.{done, fails_any, here, next_any}
use Rattle.kt_read.proofs.reader.params.direct_param.Goals as goal

pub returns-in_err-mode : goal.returns-in_err-mode
returns-in_err-mode c =
    let p = err_from_is_err_and c.from_residual.result c.from_residual.ensures.1 in
    rw (p.1, p.2) (fails_any {N = DirectParam} _ _ (here _) c.in_err-mode.ensures direct_name_end)

pub returns-in_err-name : goal.returns-in_err-name
returns-in_err-name c =
    let s = next_any {N = DirectParam} (here _) c.in_ok-mode.ensures in
    let p = err_from_is_err_and c.from_residual-in_err-name.result c.from_residual-in_err-name.ensures.1 in
    rw (p.1, p.2) (fails_any _ _ s c.in_err-name.ensures (λ name. done_completes (param_at c.in_ok-mode.place name (One c.in_ok-mode.mode))))

pub returns : goal.returns
returns c = done (next_any (next_any {N = DirectParam} (here _) c.in_ok-mode.ensures) c.in_ok-name.ensures)
