use Rattle.kt_text.proofs.GapTexts.{gaps_are_skipped}
use Rattle.kt_text.proofs.laws.gaps_are_skipped.Goals as goal

pub returns : goal.returns
returns c = gaps_are_skipped
