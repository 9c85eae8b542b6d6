use Rattle.kt_order.proofs.Shown.{tasks_begin}
use Rattle.kt_order.proofs.laws.tasks_begin_entries.Goals as goal

pub returns : goal.returns
returns g c = λ root s x lawful. tasks_begin g.P.Program.machine g.P.Program.rights root s x lawful
