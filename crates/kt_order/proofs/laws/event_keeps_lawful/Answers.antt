use Rattle.kt_order.proofs.Kept.{kept}
use Rattle.kt_order.proofs.laws.event_keeps_lawful.Goals as goal

pub returns : goal.returns
returns g c = λ l root s e x enabled lawful. kept g.P.Program.machine g.P.Program.rights l root s e x enabled lawful
