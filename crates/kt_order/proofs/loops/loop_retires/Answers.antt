use Rattle.kt_order.proofs.LoopBooks.{loop_retires}
use Rattle.kt_order.proofs.loops.loop_retires.Goals as goal

pub returns : goal.returns
returns g c = λ x q b n here. loop_retires g.P.Program.machine g.P.Program.rights x q b n here
