use Rattle.kt_loops.proofs.EnteringBeginning.{first_stays}
use Rattle.kt_loops.proofs.laws.first_stays.Goals as goal

pub returns : goal.returns
returns c = first_stays
