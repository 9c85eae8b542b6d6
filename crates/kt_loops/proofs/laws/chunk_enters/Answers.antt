use Rattle.kt_loops.proofs.EnteringDividing.{chunk_enters}
use Rattle.kt_loops.proofs.laws.chunk_enters.Goals as goal

pub returns : goal.returns
returns c = chunk_enters
