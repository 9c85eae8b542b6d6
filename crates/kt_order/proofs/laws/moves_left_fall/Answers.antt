use Rattle.kt_order.proofs.Measure.{falls}
use Rattle.kt_order.proofs.laws.moves_left_fall.Goals as goal

pub returns : goal.returns
returns g c = λ l root s e x enabled lawful. falls g.P.Program.machine g.P.Program.rights l root s e x enabled lawful
