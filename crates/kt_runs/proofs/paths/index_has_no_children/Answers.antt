use Rattle.kt_runs.proofs.PathCalls.{no_children}
use Rattle.kt_runs.proofs.paths.index_has_no_children.Goals as goal

pub returns : goal.returns
returns c = λ p input ok x h q there call i is. no_children p input (c.programs_meet_laws.ensures p ok) x h c.bodies_keep.ensures ok q there call i is
