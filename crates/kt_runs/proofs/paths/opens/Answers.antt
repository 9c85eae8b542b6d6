use Rattle.kt_runs.proofs.PathEvents.{opens_lawful, opens_alone}
use Rattle.kt_runs.proofs.paths.opens.Goals as goal

pub returns : goal.returns
returns c = λ p input ok x main store. (opens_lawful p input (c.programs_meet_laws.ensures p ok) x main store, opens_alone p input (c.programs_meet_laws.ensures p ok) x main)
