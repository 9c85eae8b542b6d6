use Rattle.kt_runs.proofs.PathEvents.{leaves}
use Rattle.kt_runs.proofs.paths.end_and_finish.Goals as goal

pub returns : goal.returns
returns c = λ p input ok x h q there run next kids. leaves p input (c.programs_meet_laws.ensures p ok) x h q there run next kids
