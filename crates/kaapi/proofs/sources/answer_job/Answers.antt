use Rattle.kt_io.specs.Ending.SendsOrLacks.{sends}
use Rattle.kaapi.proofs.sources.answer_job.Goals as goal

pub returns-in-Ok-clause-sent : goal.returns-in-Ok-clause-sent
returns-in-Ok-clause-sent g c = sends _ c.in-Ok.ensures (rw (c.exit.ensures, c.text.ensures) at c.send.ensures.sent)
