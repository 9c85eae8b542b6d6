use Rattle.kt_order.proofs.LoopBooks.{loop_takes}
use Rattle.kt_order.proofs.loops.loop_takes.Goals as goal

pub returns : goal.returns
returns g c = λ x q b at n here can. loop_takes g.P.Program.machine g.P.Program.rights x q b at n here can
