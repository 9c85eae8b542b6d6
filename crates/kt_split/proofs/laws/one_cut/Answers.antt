use Rattle.kt_split.proofs.CutLemmas.{one_cut}
use Rattle.kt_split.proofs.laws.one_cut.Goals as goal

pub returns : goal.returns
returns c = one_cut
