use Rattle.kt_io.specs.Ending.SendsOrLacks.{sends}
use Rattle.kaapi.specs.Totals.{IsGenerated}
use Rattle.kaapi.proofs.Records.{kept_is_recorded}
use Rattle.kaapi.proofs.demos.run_generated.Goals as goal

pub returns-in-Ok-clause-sent : goal.returns-in-Ok-clause-sent
returns-in-Ok-clause-sent g c = sends _ c.in-Ok.ensures.answers c.send_run.ensures.sent

pub returns-in-Ok-clause-recorded : goal.returns-in-Ok-clause-recorded
returns-in-Ok-clause-recorded g c =
    rw c.send_run.ensures.kept (kept_is_recorded (IsGenerated c.args.job.kind c.args.job.size c.args.job.number) c.args.workers c.in-Ok.reply _ c.send_run.result.0 c.in-Ok.witness
    c.send_run.ensures.sent c.in-Ok.ensures.recorded)
