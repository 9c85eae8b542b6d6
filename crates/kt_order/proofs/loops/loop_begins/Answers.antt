use Rattle.kt_order.proofs.LoopSteps.{loop_begins}
use Rattle.kt_order.proofs.loops.loop_begins.Goals as goal

pub returns : goal.returns
returns g c = λ l root s x q cs f lawful indexes at. loop_begins g.P.Program.machine g.P.Program.rights l root s x q cs f lawful indexes at
