use Rattle.kt_order.proofs.Next.{next_heads}
use Rattle.kt_order.proofs.laws.next_is_first.Goals as goal

pub returns : goal.returns
returns g c = λ w answers n st op stands next. next_heads g.P.Program.machine w answers n st op stands next
