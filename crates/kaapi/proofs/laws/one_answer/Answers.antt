use Rattle.kaapi.proofs.OneAnswer.{one_answer}
use Rattle.kaapi.proofs.laws.one_answer.Goals as goal

pub returns : goal.returns
returns c = one_answer c.one_job.ensures c.one_refusal.ensures c.job_is_read.ensures
