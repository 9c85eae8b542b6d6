use Rattle.kt_pieces.proofs.Once.{taken_once}
use Rattle.kt_pieces.proofs.laws.taken_once.Goals as goal

pub returns : goal.returns
returns c = taken_once
