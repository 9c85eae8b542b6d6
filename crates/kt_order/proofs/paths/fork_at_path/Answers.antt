use Rattle.kt_order.proofs.ByPaths.{kept_fork}
use Rattle.kt_order.proofs.paths.fork_at_path.Goals as goal

pub returns : goal.returns
returns g c = λ l depth root s child w p x there room absent running left lawful. kept_fork g.P.Program.machine depth g.P.Program.rights l root s child w p x there room absent running left lawful
