use Rattle.kt_runs.proofs.PathEvents.{claims, index_passes}
use Rattle.kt_runs.proofs.paths.claim_index.Goals as goal

pub returns : goal.returns
returns c = λ p input ok x h q there call i job un. claims p input (c.programs_meet_laws.ensures p ok) x h q there un (index_passes p input (c.programs_meet_laws.ensures p ok) x h c.bodies_keep.ensures ok c.loops_are_direct.ensures q there call i job)
