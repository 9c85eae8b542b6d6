use Rattle.kt_words.proofs.PlaceLaws.{places_differ}
use Rattle.kt_words.proofs.laws.places_differ.Goals as goal

pub returns : goal.returns
returns c = places_differ
