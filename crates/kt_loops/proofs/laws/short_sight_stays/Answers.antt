use Rattle.kt_loops.proofs.EnteringDividing.{short_sight_stays}
use Rattle.kt_loops.proofs.laws.short_sight_stays.Goals as goal

pub returns : goal.returns
returns c = short_sight_stays
