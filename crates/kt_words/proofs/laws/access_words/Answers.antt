use Rattle.kt_words.proofs.AccessLaws.{access_words}
use Rattle.kt_words.proofs.laws.access_words.Goals as goal

pub returns : goal.returns
returns c = access_words
