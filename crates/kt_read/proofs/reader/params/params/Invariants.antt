use Rattle.kt_read.specs.DeclarationParts.{ParamsLeft, closing}
use Rattle.kt_read.specs.Programs.{ReadsMaybeParams}
use Rattle.kt_read.proofs.Shrinking.{left}
use Rattle.kt_read.proofs.Still.{Still}
use Rattle.kt_read.proofs.reader.params.params.Given as goal

abbrev pub invariant-each : goal.invariant-each
invariant-each l = Still ReadsMaybeParams closing l.fn.source l.source (ParamsLeft l.params)

abbrev pub decreases-each : goal.decreases-each
decreases-each l = left l.source
