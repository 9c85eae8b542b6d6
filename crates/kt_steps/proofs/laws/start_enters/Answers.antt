use Rattle.kt_steps.proofs.Entering.{start_enters}
use Rattle.kt_steps.proofs.laws.start_enters.Goals as goal

pub returns : goal.returns
returns c = start_enters
