use Rattle.std.proofs.Common.{[], ◌∷◌}
use Rattle.kt_read.specs.ArgumentResiduals.{MoreArgs, after_arguments}
use Rattle.kt_read.proofs.Shrinking.{left}
use Rattle.kt_read.proofs.Still.{Still}
use Rattle.kt_read.proofs.reader.arguments.arguments_behind.Given as goal

abbrev pub invariant-more : goal.invariant-more
invariant-more l = Still (MoreArgs (l.fn.first ∷ [])) after_arguments l.fn.source l.source (MoreArgs l.args.items)

abbrev pub decreases-more : goal.decreases-more
decreases-more l = left l.source
