use Rattle.kt_hands.proofs.Seats.{serves}
use Rattle.kt_pool_trials.proofs.recorders.serve_all.Goals as goal

pub returns-clause-served : goal.returns-clause-served
returns-clause-served g c = serves _ _ c.requires.none.1 c.serve.ensures.others
