use Rattle.kt_text.proofs.TokenLists.{tokens_go_on}
use Rattle.kt_text.proofs.laws.tokens_go_on.Goals as goal

pub returns : goal.returns
returns c = tokens_go_on
