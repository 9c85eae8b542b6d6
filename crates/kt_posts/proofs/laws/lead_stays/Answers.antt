use Rattle.kt_posts.proofs.Entering.{lead_stays}
use Rattle.kt_posts.proofs.laws.lead_stays.Goals as goal

pub returns : goal.returns
returns c = lead_stays
