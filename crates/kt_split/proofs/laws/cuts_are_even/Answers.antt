use Rattle.kt_split.proofs.CutLemmas.{cuts_are_even}
use Rattle.kt_split.proofs.laws.cuts_are_even.Goals as goal

pub returns : goal.returns
returns c = cuts_are_even
