use Rattle.kt_loops.proofs.EnteringDividing.{home_sight_stays}
use Rattle.kt_loops.proofs.laws.home_sight_stays.Goals as goal

pub returns : goal.returns
returns c = home_sight_stays
