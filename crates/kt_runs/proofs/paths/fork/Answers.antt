use Rattle.kt_runs.proofs.PathEvents.{forks_lawful, forks_counts}
use Rattle.kt_runs.proofs.paths.fork.Goals as goal

pub returns : goal.returns
returns c = λ p input ok x h q there run d next absent. (forks_lawful p input (c.programs_meet_laws.ensures p ok) x h c.bodies_keep.ensures ok q there run d next absent, forks_counts p input (c.programs_meet_laws.ensures p ok) x h c.bodies_keep.ensures ok q there run d next absent)
