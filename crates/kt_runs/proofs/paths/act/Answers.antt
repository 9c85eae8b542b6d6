use Rattle.kt_runs.proofs.PathEvents.{acts}
use Rattle.kt_runs.proofs.paths.act.Goals as goal

pub returns : goal.returns
returns c = λ p input ok x h q there run a next. acts p input (c.programs_meet_laws.ensures p ok) x h q there run a next
