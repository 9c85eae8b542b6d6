use Rattle.kt_runs.proofs.PathEvents.{goes_on}
use Rattle.kt_runs.proofs.paths.next_goes_on.Goals as goal

pub returns : goal.returns
returns c = λ p input x h q there op next. goes_on p input x h q there op next
