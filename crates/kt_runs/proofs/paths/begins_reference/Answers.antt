use Rattle.kt_runs.proofs.PathLines.{begins}
use Rattle.kt_runs.proofs.paths.begins_reference.Goals as goal

pub returns : goal.returns
returns c = λ p input x h q there. begins p input x h q there
