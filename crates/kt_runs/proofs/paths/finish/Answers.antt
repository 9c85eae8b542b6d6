use Rattle.kt_runs.proofs.PathEvents.{finishes}
use Rattle.kt_runs.proofs.paths.finish.Goals as goal

pub returns : goal.returns
returns c = λ p input ok x h q there over kids. finishes p input (c.programs_meet_laws.ensures p ok) x h q there over kids
