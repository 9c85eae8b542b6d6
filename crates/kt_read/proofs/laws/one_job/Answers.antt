use Rattle.kt_read.proofs.OneText.{text_is}
use Rattle.kt_read.proofs.laws.one_job.Goals as goal

pub returns : goal.returns
returns c = λ bytes p q i j a b. text_is bytes p q i j a.text b.text
