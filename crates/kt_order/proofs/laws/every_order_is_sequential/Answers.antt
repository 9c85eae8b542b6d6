use Rattle.kt_order.proofs.Kept.{any_order}
use Rattle.kt_order.proofs.laws.every_order_is_sequential.Goals as goal

pub returns : goal.returns
returns g c = λ l root s es fit follows finished. any_order g.P.Program.machine g.P.Program.rights l root s fit es follows finished
