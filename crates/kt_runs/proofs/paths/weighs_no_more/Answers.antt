use Rattle.kt_runs.proofs.PathCounts.{weigh_less}
use Rattle.kt_runs.proofs.paths.weighs_no_more.Goals as goal

pub returns : goal.returns
returns c = λ p input ok of_call of_act x h. weigh_less p input (c.programs_meet_laws.ensures p ok) x h of_call of_act
