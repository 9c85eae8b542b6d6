use Rattle.kt_words.proofs.PlaceLaws.{places_are_inside}
use Rattle.kt_words.proofs.laws.places_are_inside.Goals as goal

pub returns : goal.returns
returns c = places_are_inside
