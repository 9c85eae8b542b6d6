use Rattle.kt_order.proofs.Weights.{weigh_no_more}
use Rattle.kt_order.proofs.laws.tasks_weigh_no_more.Goals as goal

pub returns : goal.returns
returns g c = λ l of_call of_act root s x lawful. weigh_no_more g.P.Program.machine of_call of_act g.P.Program.rights l root s x lawful
