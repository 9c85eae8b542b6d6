use Rattle.kt_words.proofs.PlaceLaws.{set_is_read}
use Rattle.kt_words.proofs.laws.set_is_read.Goals as goal

pub returns : goal.returns
returns c = set_is_read
