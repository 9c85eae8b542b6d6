use Rattle.kt_order.proofs.LoopIndexes.{loop_index_goes}
use Rattle.kt_order.proofs.loops.loop_index_goes.Goals as goal

pub returns : goal.returns
returns g c = λ l root s x q b i lawful here. loop_index_goes g.P.Program.machine g.P.Program.rights x q b i lawful.shape here
