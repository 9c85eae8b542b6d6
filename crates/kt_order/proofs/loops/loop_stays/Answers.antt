use Rattle.kt_order.proofs.LoopStays.{loop_stays}
use Rattle.kt_order.proofs.loops.loop_stays.Goals as goal

pub returns : goal.returns
returns g c = λ x q b e here away apart. loop_stays g.P.Program.machine g.P.Program.rights x q b e here away apart
