use Rattle.kt_loops.proofs.EnteringDividing.{empty_stays}
use Rattle.kt_loops.proofs.laws.empty_stays.Goals as goal

pub returns : goal.returns
returns c = empty_stays
