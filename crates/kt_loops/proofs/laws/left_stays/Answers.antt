use Rattle.kt_loops.proofs.EnteringRetiring.{left_stays}
use Rattle.kt_loops.proofs.laws.left_stays.Goals as goal

pub returns : goal.returns
returns c = left_stays
