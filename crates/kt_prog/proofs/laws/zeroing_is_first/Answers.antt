use Rattle.kt_prog.proofs.Fronts.{zeroing_is_first}
use Rattle.kt_prog.proofs.laws.zeroing_is_first.Goals as goal

pub returns : goal.returns
returns c = zeroing_is_first
