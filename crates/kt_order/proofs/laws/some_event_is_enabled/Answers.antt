use Rattle.kt_order.proofs.Progress.{some_event}
use Rattle.kt_order.proofs.laws.some_event_is_enabled.Goals as goal

pub returns : goal.returns
returns g c = λ x. some_event g.P.Program.machine g.P.Program.rights x
