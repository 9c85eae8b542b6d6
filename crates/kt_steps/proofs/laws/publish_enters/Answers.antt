use Rattle.kt_steps.proofs.Entering.{publish_enters}
use Rattle.kt_steps.proofs.laws.publish_enters.Goals as goal

pub returns : goal.returns
returns c = publish_enters
