use Rattle.kt_read.proofs.JobsRead.{job_is_read}
use Rattle.kt_read.proofs.laws.job_is_read.Goals as goal

pub returns : goal.returns
returns c = job_is_read
