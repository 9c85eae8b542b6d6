use Rattle.kt_words.proofs.HeadLaws.{head_words}
use Rattle.kt_words.proofs.laws.head_words.Goals as goal

pub returns : goal.returns
returns c = head_words
