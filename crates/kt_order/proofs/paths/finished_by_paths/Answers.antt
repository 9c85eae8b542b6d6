use Rattle.kt_order.proofs.PathDone.{run_is, done_there}
use Rattle.kt_order.proofs.paths.finished_by_paths.Goals as goal

pub returns : goal.returns
returns g c = λ l depth root s x lawful finished. (run_is g.P.Program.machine g.P.Program.rights l depth root s x lawful finished, done_there g.P.Program.machine g.P.Program.rights l depth root s x lawful finished)
