use Rattle.kt_faults.proofs.Firsts.{earlier_first}
use Rattle.kt_faults.proofs.laws.earlier_is_first.Goals as goal

pub returns : goal.returns
returns c = earlier_first
