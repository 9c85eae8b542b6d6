use Rattle.kt_order.proofs.PathWeights.{paths_weigh}
use Rattle.kt_order.proofs.paths.paths_weigh_no_more.Goals as goal

pub returns : goal.returns
returns g c = λ l of_call of_act depth root s x lawful. paths_weigh g.P.Program.machine of_call of_act g.P.Program.rights l depth root s x lawful
