use Rattle.kt_posts.proofs.Entering.{hold_stays}
use Rattle.kt_posts.proofs.laws.hold_stays.Goals as goal

pub returns : goal.returns
returns c = hold_stays
