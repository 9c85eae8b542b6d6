use Rattle.kt_order.proofs.LoopBooks.{loop_goes}
use Rattle.kt_order.proofs.loops.loop_goes_on.Goals as goal

pub returns : goal.returns
returns g c = λ x q b here. loop_goes g.P.Program.machine g.P.Program.rights x q b here
