use Rattle.kt_steps.proofs.Closing.{close_gives}
use Rattle.kt_steps.proofs.laws.close_gives.Goals as goal

pub returns : goal.returns
returns c = close_gives
