use Rattle.kt_loops.proofs.EnteringRetiring.{last_retire_enters}
use Rattle.kt_loops.proofs.laws.last_retire_enters.Goals as goal

pub returns : goal.returns
returns c = last_retire_enters
