use Rattle.kt_split.proofs.CutLemmas.{cuts_keep_positions}
use Rattle.kt_split.proofs.laws.cuts_keep_positions.Goals as goal

pub returns : goal.returns
returns c = cuts_keep_positions
