use Rattle.kt_loops.proofs.EnteringDividing.{missed_split_stays}
use Rattle.kt_loops.proofs.laws.missed_split_stays.Goals as goal

pub returns : goal.returns
returns c = missed_split_stays
