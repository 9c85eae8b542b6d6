use Rattle.kt_posts.proofs.Entering.{withdraw_stays}
use Rattle.kt_posts.proofs.laws.withdraw_stays.Goals as goal

pub returns : goal.returns
returns c = withdraw_stays
