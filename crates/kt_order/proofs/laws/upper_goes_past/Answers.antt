use Rattle.kt_order.proofs.Agree.{upper_goes_past}
use Rattle.kt_order.proofs.laws.upper_goes_past.Goals as goal

pub returns : goal.returns
returns g c = λ l root s x lawful a b u v. upper_goes_past g.P.Program.machine g.P.Program.rights l x.forest lawful.shape a b u v
