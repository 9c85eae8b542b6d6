use Rattle.kt_loops.proofs.EnteringDividing.{sight_stays}
use Rattle.kt_loops.proofs.laws.sight_stays.Goals as goal

pub returns : goal.returns
returns c = sight_stays
