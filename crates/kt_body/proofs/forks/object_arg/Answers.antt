use Rattle.std.proofs.Common.{◌∙◌}
use Rattle.kt_body.proofs.Steps.{ran_same}
use Rattle.kt_body.proofs.Astray.{astray_is}
use Rattle.kt_body.proofs.Passing.{at_object}
use Rattle.kt_body.proofs.forks.object_arg.Goals as goal

pub returns-in-Span-clause-value : goal.returns-in-Span-clause-value
returns-in-Span-clause-value g c =
    ran_same _ _ _ (at_object _ _ _ c.in-Span.is ∙ astray_is 0)
