use Rattle.kt_order.proofs.Next.{done_stays}
use Rattle.kt_order.proofs.laws.done_stays.Goals as goal

pub returns : goal.returns
returns g c = λ w answers more n k st stands less. done_stays g.P.Program.machine w answers more n k st stands less
