use Rattle.kt_order.proofs.ByPaths.{kept_do}
use Rattle.kt_order.proofs.paths.act_at_path.Goals as goal

pub returns : goal.returns
returns g c = λ l depth root s q k p x there running left lawful. kept_do g.P.Program.machine depth g.P.Program.rights l root s q k p x there running left lawful
