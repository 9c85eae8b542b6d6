use Rattle.kt_loops.proofs.EnteringBeginning.{draw_stays}
use Rattle.kt_loops.proofs.laws.draw_stays.Goals as goal

pub returns : goal.returns
returns c = draw_stays
