use Rattle.kt_order.proofs.Kept.{whole_done}
use Rattle.kt_order.proofs.laws.finished_is_sequential.Goals as goal

pub returns : goal.returns
returns g c = λ l root s x lawful finished. whole_done g.P.Program.machine g.P.Program.rights l root s x lawful finished
