use Rattle.kt_text.proofs.Fits.{next_token-behind}
use Rattle.kt_text.proofs.laws.tokens_are_behind.Goals as goal

pub returns : goal.returns
returns c = next_token-behind
