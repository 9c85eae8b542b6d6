use Rattle.kt_order.proofs.ByPaths.{kept_end}
use Rattle.kt_order.proofs.paths.end_at_path.Goals as goal

pub returns : goal.returns
returns g c = λ l depth root s f p x there running left lawful. kept_end g.P.Program.machine depth g.P.Program.rights l root s f p x there running left lawful
