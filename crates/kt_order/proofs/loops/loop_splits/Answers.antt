use Rattle.kt_order.proofs.LoopBooks.{loop_splits}
use Rattle.kt_order.proofs.loops.loop_splits.Goals as goal

pub returns : goal.returns
returns g c = λ x q b at here. loop_splits g.P.Program.machine g.P.Program.rights x q b at here
