use Rattle.kt_posts.proofs.Entering.{look_stays}
use Rattle.kt_posts.proofs.laws.look_stays.Goals as goal

pub returns : goal.returns
returns c = look_stays
