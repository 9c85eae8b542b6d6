use Rattle.kt_posts.proofs.Entering.{answer_load_stays}
use Rattle.kt_posts.proofs.laws.answer_load_stays.Goals as goal

pub returns : goal.returns
returns c = answer_load_stays
