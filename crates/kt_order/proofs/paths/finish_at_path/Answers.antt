use Rattle.kt_order.proofs.ByPaths.{kept_finish}
use Rattle.kt_order.proofs.paths.finish_at_path.Goals as goal

pub returns : goal.returns
returns g c = λ l depth root s p x there ended children lawful. kept_finish g.P.Program.machine depth g.P.Program.rights l root s p x there ended children lawful
