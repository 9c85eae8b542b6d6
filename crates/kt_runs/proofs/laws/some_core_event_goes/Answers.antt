use Rattle.kt_runs.proofs.Going.{some_event}
use Rattle.kt_runs.proofs.laws.some_core_event_goes.Goals as goal

pub returns : goal.returns
returns c = λ p input ok. some_event p c.bodies_keep.ensures ok input
