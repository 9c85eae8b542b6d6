use Rattle.kt_posts.proofs.Entering.{write_stays}
use Rattle.kt_posts.proofs.laws.write_stays.Goals as goal

pub returns : goal.returns
returns c = write_stays
