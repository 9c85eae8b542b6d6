use Rattle.kt_pieces.proofs.Lasts.{left_is_enough}
use Rattle.kt_pieces.proofs.laws.left_is_enough.Goals as goal

pub returns : goal.returns
returns c = left_is_enough
