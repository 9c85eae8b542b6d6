use Rattle.kt_prog.proofs.Fronts.{loop_is_zeroing}
use Rattle.kt_prog.proofs.laws.loop_is_zeroing.Goals as goal

pub returns : goal.returns
returns c = loop_is_zeroing
