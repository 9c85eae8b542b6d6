use Rattle.kt_loops.proofs.EnteringBeginning.{home_stays}
use Rattle.kt_loops.proofs.laws.home_stays.Goals as goal

pub returns : goal.returns
returns c = home_stays
