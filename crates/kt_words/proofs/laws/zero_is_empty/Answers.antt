use Rattle.kt_words.proofs.StateLaws.{zero_is_empty}
use Rattle.kt_words.proofs.laws.zero_is_empty.Goals as goal

pub returns : goal.returns
returns c = zero_is_empty
