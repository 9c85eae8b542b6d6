use Rattle.std.proofs.Common.{◌∙◌}
use Rattle.kt_body.proofs.Steps.{ran_same}
use Rattle.kt_body.proofs.Astray.{astray_is}
use Rattle.kt_body.proofs.Passing.{at_number}
use Rattle.kt_body.proofs.forks.number_arg.Goals as goal

pub returns-in-Span : goal.returns-in-Span
returns-in-Span g c =
    ran_same _ _ _ (at_number _ _ _ c.in-Span.is ∙ astray_is 0)
