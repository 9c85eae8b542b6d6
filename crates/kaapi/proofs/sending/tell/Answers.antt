use Rattle.std.proofs.Common.{refl}
use Rattle.kaapi.specs.Answers.{told}
use Rattle.kt_io.specs.Ending.SendsOrLacks.{sends}
use Rattle.kaapi.proofs.sending.tell.Goals as goal

pub returns-in-Ok-clause-sent : goal.returns-in-Ok-clause-sent
returns-in-Ok-clause-sent g c = sends (told c.args.exit c.args.line.now) refl (rw (c.deref.ensures.value, c.in-Ok.ensures) at c.send.ensures.sent)
