use Rattle.kt_posts.proofs.Entering.{post_stays}
use Rattle.kt_posts.proofs.laws.post_stays.Goals as goal

pub returns : goal.returns
returns c = post_stays
