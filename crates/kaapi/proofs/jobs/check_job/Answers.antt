use Rattle.kt_open.specs.Answers.IsRefused.{unread, broken}
use Rattle.kaapi.proofs.jobs.check_job.Goals as goal

pub returns-in-Err-Refused : goal.returns-in-Err-Refused
returns-in-Err-Refused c = rw c.in-Err-Refused.refusal-is (unread (rw c.in-Err-Refused.field-0-is at c.in-Err-Refused.ensures.refused))

pub returns-in-Err-Refused-check_indexed : goal.returns-in-Err-Refused-check_indexed
returns-in-Err-Refused-check_indexed c = broken c.in-Ok.ensures.job (rw c.in-Err-Refused-check_indexed.field-0-is at c.in-Err-Refused-check_indexed.ensures.refused)
