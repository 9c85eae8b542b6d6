use Rattle.kt_loops.proofs.EnteringRetiring.{loop_finish_enters}
use Rattle.kt_loops.proofs.laws.loop_finish_enters.Goals as goal

pub returns : goal.returns
returns c = loop_finish_enters
