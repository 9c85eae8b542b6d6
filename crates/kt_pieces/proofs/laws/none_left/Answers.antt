use Rattle.kt_pieces.proofs.Lasts.{none_left}
use Rattle.kt_pieces.proofs.laws.none_left.Goals as goal

pub returns : goal.returns
returns c = none_left
