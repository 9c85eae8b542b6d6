use Rattle.kt_steps.proofs.Entering.{finish_enters}
use Rattle.kt_steps.proofs.laws.finish_enters.Goals as goal

pub returns : goal.returns
returns c = finish_enters
