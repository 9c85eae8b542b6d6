use Rattle.kt_read.proofs.OneText.{text_is}
use Rattle.kt_read.proofs.laws.one_text.Goals as goal

pub returns : goal.returns
returns c = text_is
