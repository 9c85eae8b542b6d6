use Rattle.kt_words.proofs.PairLaws.{pairs}
use Rattle.kt_words.proofs.laws.pairs.Goals as goal

pub returns : goal.returns
returns c = pairs
