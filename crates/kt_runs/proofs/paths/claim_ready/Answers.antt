use Rattle.kt_runs.proofs.PathEvents.{claims, passes}
use Rattle.kt_runs.proofs.paths.claim_ready.Goals as goal

pub returns : goal.returns
returns c = λ p input ok x h q there un before. claims p input (c.programs_meet_laws.ensures p ok) x h q there un (λ z k is i less. passes p input (c.programs_meet_laws.ensures p ok) x h c.bodies_keep.ensures ok q z k is there i less (before z k is i less))
