use Rattle.kt_io.specs.Ending.SendsOrLacks.{sends}
use Rattle.kt_open.specs.Answers.{Opened}
use Rattle.kaapi.proofs.Records.{kept_is_recorded}
use Rattle.kaapi.proofs.sources.run_job.Goals as goal

pub returns-in-Ok-clause-sent : goal.returns-in-Ok-clause-sent
returns-in-Ok-clause-sent g c = sends _ c.in-Ok.ensures.answers c.send_run.ensures.sent

pub returns-in-Ok-clause-recorded : goal.returns-in-Ok-clause-recorded
returns-in-Ok-clause-recorded g c =
    rw c.send_run.ensures.kept (kept_is_recorded (Opened c.args.job.now) c.args.workers c.in-Ok.reply _ c.send_run.result.0 c.in-Ok.witness c.send_run.ensures.sent c.in-Ok.ensures.recorded)
