use Rattle.kt_faults.proofs.Firsts.{same_answers}
use Rattle.kt_faults.proofs.laws.same_faults_same_answer.Goals as goal

pub returns : goal.returns
returns c = same_answers
