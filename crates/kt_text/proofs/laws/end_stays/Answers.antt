use Rattle.kt_text.proofs.TokenLists.{end_stays}
use Rattle.kt_text.proofs.laws.end_stays.Goals as goal

pub returns : goal.returns
returns c = end_stays
