use Rattle.kt_posts.proofs.Entering.{post_load_stays}
use Rattle.kt_posts.proofs.laws.post_load_stays.Goals as goal

pub returns : goal.returns
returns c = post_load_stays
