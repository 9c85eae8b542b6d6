use Rattle.kt_loops.proofs.EnteringRetiring.{retire_enters}
use Rattle.kt_loops.proofs.laws.retire_enters.Goals as goal

pub returns : goal.returns
returns c = retire_enters
