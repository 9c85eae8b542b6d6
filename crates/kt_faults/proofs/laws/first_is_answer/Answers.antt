use Rattle.kt_faults.proofs.Firsts.{first_answers}
use Rattle.kt_faults.proofs.laws.first_is_answer.Goals as goal

pub returns : goal.returns
returns c = first_answers
