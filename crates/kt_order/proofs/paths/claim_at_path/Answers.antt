use Rattle.kt_order.proofs.ByPaths.{kept_claim}
use Rattle.kt_order.proofs.paths.claim_at_path.Goals as goal

pub returns : goal.returns
returns g c = λ l depth root s p x there unclaimed earlier lawful. kept_claim g.P.Program.machine depth g.P.Program.rights l root s p x there unclaimed earlier lawful
