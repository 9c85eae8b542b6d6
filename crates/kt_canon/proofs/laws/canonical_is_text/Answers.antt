use Rattle.kt_canon.proofs.ReadAgain.{canonical_is_text}
use Rattle.kt_canon.proofs.laws.canonical_is_text.Goals as goal

pub returns : goal.returns
returns c = canonical_is_text
