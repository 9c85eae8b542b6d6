use Rattle.kt_order.proofs.Agree.{side_by_side}
use Rattle.kt_order.proofs.laws.side_by_side_are_apart.Goals as goal

pub returns : goal.returns
returns g c = λ l below root s x lawful a b u v. side_by_side g.P.Program.machine g.P.Program.rights l below x.forest lawful.shape a b u v
