use Rattle.kt_order.proofs.Shown.{no_more}
use Rattle.kt_order.proofs.laws.no_more_tasks.Goals as goal

pub returns : goal.returns
returns g c = λ root s x lawful. no_more g.P.Program.machine g.P.Program.rights root s x lawful
