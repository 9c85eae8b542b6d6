use Rattle.std.specs.Prelude.{IfErr}
use Rattle.std.proofs.Common.{sym, subst}
use Rattle.kt_open.specs.Unopened.{IsUnopened}
use Rattle.kt_open.proofs.NoPrograms.{err_then, no_program_is_unopened}
use Rattle.kt_open.proofs.opening.open_job.Goals as goal

pub returns-in_err-program-clause-unopened : goal.returns-in_err-program-clause-unopened
returns-in_err-program-clause-unopened c =
    err_then c.args.job.now c.from_residual.result c.in_err-program.field-0.0 c.from_residual.ensures.1
    (no_program_is_unopened c.args.job.now c.in_err-program.field-0.0 c.in_err-program.ensures.unopened)
