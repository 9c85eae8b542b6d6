use Rattle.kt_words.proofs.PlaceLaws.{others_stay}
use Rattle.kt_words.proofs.laws.others_stay.Goals as goal

pub returns : goal.returns
returns c = others_stay
