use Rattle.kt_words.proofs.StateLaws.{state_words}
use Rattle.kt_words.proofs.laws.state_words.Goals as goal

pub returns : goal.returns
returns c = state_words
