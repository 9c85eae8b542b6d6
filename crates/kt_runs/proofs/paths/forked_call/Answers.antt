use Rattle.kt_runs.proofs.PathCalls.{next_fits}
use Rattle.kt_runs.proofs.paths.forked_call.Goals as goal

pub returns : goal.returns
returns c = λ p input ok x h q there d next. next_fits p input (c.programs_meet_laws.ensures p ok) x h c.bodies_keep.ensures ok q there d next
