use Rattle.kt_order.proofs.Kept.{opens}
use Rattle.kt_order.proofs.laws.opening_is_lawful.Goals as goal

pub returns : goal.returns
returns g c = λ l root s fit. opens g.P.Program.machine g.P.Program.rights l root s fit
