use Rattle.kt_loops.proofs.EnteringDividing.{split_stays}
use Rattle.kt_loops.proofs.laws.split_stays.Goals as goal

pub returns : goal.returns
returns c = split_stays
