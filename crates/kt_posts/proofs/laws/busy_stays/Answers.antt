use Rattle.kt_posts.proofs.Entering.{busy_stays}
use Rattle.kt_posts.proofs.laws.busy_stays.Goals as goal

pub returns : goal.returns
returns c = busy_stays
