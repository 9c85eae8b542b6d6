use Rattle.kt_loops.proofs.EnteringBeginning.{over_draw_stays}
use Rattle.kt_loops.proofs.laws.over_draw_stays.Goals as goal

pub returns : goal.returns
returns c = over_draw_stays
