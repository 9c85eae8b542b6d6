use Rattle.kt_runs.proofs.PathCalls.{parent_there, children_there}
use Rattle.kt_runs.proofs.paths.children_are_tasks.Goals as goal

pub returns : goal.returns
returns c = λ p input ok x h q k. (λ there. parent_there p input (c.programs_meet_laws.ensures p ok) x h q k there, λ up. children_there p input (c.programs_meet_laws.ensures p ok) x h c.bodies_keep.ensures ok q k up.0 up.1)
