use Rattle.kt_runs.proofs.PathLines.{gives}
use Rattle.kt_runs.proofs.paths.done.Goals as goal

pub returns : goal.returns
returns c = λ p input ok x h fin. gives p input (c.programs_meet_laws.ensures p ok) x h fin
