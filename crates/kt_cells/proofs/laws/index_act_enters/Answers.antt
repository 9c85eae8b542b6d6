use Rattle.kt_cells.proofs.Entering.{index_act_enters}
use Rattle.kt_cells.proofs.laws.index_act_enters.Goals as goal

pub returns : goal.returns
returns c = index_act_enters
