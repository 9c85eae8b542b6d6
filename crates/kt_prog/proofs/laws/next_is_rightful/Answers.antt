use Rattle.kt_prog.proofs.Rightful.{next_is_rightful}
use Rattle.kt_prog.proofs.laws.next_is_rightful.Goals as goal

pub returns : goal.returns
returns c = next_is_rightful
