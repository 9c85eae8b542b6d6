use Rattle.kt_text.proofs.TokenLists.{tokens_are_few}
use Rattle.kt_text.proofs.laws.tokens_are_few.Goals as goal

pub returns : goal.returns
returns c = tokens_are_few
