use Rattle.std.proofs.Common.{length}
use Rattle.kt_core.proofs.claims.+any_clash.Given as goal

abbrev pub decreases-any_clash : goal.decreases-any_clash
decreases-any_clash l = length l.others.now
