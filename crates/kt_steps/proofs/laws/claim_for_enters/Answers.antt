use Rattle.kt_steps.proofs.Entering.{claim_for_enters}
use Rattle.kt_steps.proofs.laws.claim_for_enters.Goals as goal

pub returns : goal.returns
returns c = claim_for_enters
