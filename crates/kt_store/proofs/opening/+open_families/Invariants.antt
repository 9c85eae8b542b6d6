use Rattle.std.proofs.Common.{length}
use Rattle.kt_store.proofs.opening.+open_families.Given as goal

abbrev pub decreases-open_families : goal.decreases-open_families
decreases-open_families l = length l.families.now
