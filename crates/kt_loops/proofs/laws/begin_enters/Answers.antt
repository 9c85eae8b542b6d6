use Rattle.kt_loops.proofs.EnteringBeginning.{begin_enters}
use Rattle.kt_loops.proofs.laws.begin_enters.Goals as goal

pub returns : goal.returns
returns c = begin_enters
