use Rattle.kt_order.proofs.PathBegins.{path_begins}
use Rattle.kt_order.proofs.paths.path_begins_entry.Goals as goal

pub returns : goal.returns
returns g c = λ depth root s x lawful p there. path_begins g.P.Program.machine g.P.Program.rights depth root s x lawful p there
