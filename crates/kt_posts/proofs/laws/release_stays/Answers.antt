use Rattle.kt_posts.proofs.Entering.{release_stays}
use Rattle.kt_posts.proofs.laws.release_stays.Goals as goal

pub returns : goal.returns
returns c = release_stays
