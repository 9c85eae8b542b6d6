use Rattle.kt_loops.proofs.EnteringDividing.{fill_stays}
use Rattle.kt_loops.proofs.laws.fill_stays.Goals as goal

pub returns : goal.returns
returns c = fill_stays
