use Rattle.std.proofs.Common.{length}
use Rattle.kt_core.proofs.claims.+clash_between.Given as goal

abbrev pub decreases-clash_between : goal.decreases-clash_between
decreases-clash_between l = length l.firsts.now
