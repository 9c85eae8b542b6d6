use Rattle.kt_steps.proofs.Entering.{claim_own_enters}
use Rattle.kt_steps.proofs.laws.claim_own_enters.Goals as goal

pub returns : goal.returns
returns c = claim_own_enters
