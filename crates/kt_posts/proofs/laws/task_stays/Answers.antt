use Rattle.kt_posts.proofs.Entering.{task_stays}
use Rattle.kt_posts.proofs.laws.task_stays.Goals as goal

pub returns : goal.returns
returns c = task_stays
