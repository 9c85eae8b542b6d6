use Rattle.kaapi.proofs.sending.send_run.Goals as goal

pub returns-clause-sent : goal.returns-clause-sent
returns-clause-sent g c = rw (c.exit.ensures, c.text.ensures) at c.send-exit.ensures.sent
