use Rattle.kt_posts.proofs.Entering.{failed_stays}
use Rattle.kt_posts.proofs.laws.failed_stays.Goals as goal

pub returns : goal.returns
returns c = failed_stays
