use Rattle.kt_runs.proofs.PathEvents.{ends}
use Rattle.kt_runs.proofs.paths.end.Goals as goal

pub returns : goal.returns
returns c = λ p input ok x h q there run next. ends p input (c.programs_meet_laws.ensures p ok) x h q there run next
