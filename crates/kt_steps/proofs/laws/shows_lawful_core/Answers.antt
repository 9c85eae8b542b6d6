use Rattle.kt_steps.proofs.Entering.{shows_lawful}
use Rattle.kt_steps.proofs.laws.shows_lawful_core.Goals as goal

pub returns : goal.returns
returns c = shows_lawful
