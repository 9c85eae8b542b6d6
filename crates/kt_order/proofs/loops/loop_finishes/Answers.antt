use Rattle.kt_order.proofs.LoopBooks.{loop_finishes}
use Rattle.kt_order.proofs.loops.loop_finishes.Goals as goal

pub returns : goal.returns
returns g c = λ x q b here none. loop_finishes g.P.Program.machine g.P.Program.rights x q b here none
