use Rattle.kt_posts.proofs.Entering.{piece_stays}
use Rattle.kt_posts.proofs.laws.piece_stays.Goals as goal

pub returns : goal.returns
returns c = piece_stays
