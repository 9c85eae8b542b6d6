use Rattle.kt_steps.proofs.Entering.{act_enters}
use Rattle.kt_steps.proofs.laws.act_enters.Goals as goal

pub returns : goal.returns
returns c = act_enters
