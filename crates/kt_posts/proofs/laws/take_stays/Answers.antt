use Rattle.kt_posts.proofs.Entering.{take_stays}
use Rattle.kt_posts.proofs.laws.take_stays.Goals as goal

pub returns : goal.returns
returns c = take_stays
