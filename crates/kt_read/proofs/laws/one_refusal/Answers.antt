use Rattle.kt_read.proofs.OneRefusal.{one_refusal}
use Rattle.kt_read.proofs.laws.one_refusal.Goals as goal

pub returns : goal.returns
returns c = one_refusal
