use Rattle.kt_order.proofs.Kept.{kept_run}
use Rattle.kt_order.proofs.laws.run_keeps_lawful.Goals as goal

pub returns : goal.returns
returns g c = λ l root s es x follows lawful. kept_run g.P.Program.machine g.P.Program.rights l root s es x follows lawful
