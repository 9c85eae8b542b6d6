use Rattle.kt_runs.proofs.PathCounts.{tasks_less}
use Rattle.kt_runs.proofs.paths.no_more_tasks.Goals as goal

pub returns : goal.returns
returns c = λ p input ok x h. tasks_less p input (c.programs_meet_laws.ensures p ok) x h
