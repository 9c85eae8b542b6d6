use Rattle.kt_runs.proofs.PathCalls.{calls_fit}
use Rattle.kt_runs.proofs.paths.calls_fit_paths.Goals as goal

pub returns : goal.returns
returns c = λ p input ok x h q there. calls_fit p input (c.programs_meet_laws.ensures p ok) x h c.bodies_keep.ensures ok q there
