use Rattle.kt_words.proofs.PostLaws.{post_words}
use Rattle.kt_words.proofs.laws.post_words.Goals as goal

pub returns : goal.returns
returns c = post_words
