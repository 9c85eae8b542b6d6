use Rattle.std.proofs.Common.{refl}
use Rattle.kaapi.specs.Answers.{generated}
use Rattle.kt_io.specs.Ending.SendsOrLacks.{sends}
use Rattle.kaapi.proofs.sending.send_generated.Goals as goal

pub returns-in-Ok-clause-sent : goal.returns-in-Ok-clause-sent
returns-in-Ok-clause-sent g c =
    sends (generated c.args.kind c.args.size c.args.number) refl (rw (c.deref.ensures.value, c.in-Ok.ensures) at c.send.ensures.sent)
