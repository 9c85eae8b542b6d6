use Rattle.std.proofs.Common.{inl}
use Rattle.kt_runs.proofs.PathEvents.{claims}
use Rattle.kt_runs.proofs.paths.claim_in_order.Goals as goal

pub returns : goal.returns
returns c = λ p input ok x h q there un before. claims p input (c.programs_meet_laws.ensures p ok) x h q there un (λ z k is i less. inl (before z k is i less))
