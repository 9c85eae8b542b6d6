use Rattle.kt_worker.proofs.Turning.{calm_stop, stops, turns_after}
use Rattle.kt_worker.proofs.turns.turn.Goals as goal

pub go_on-requires-clause-calm : goal.go_on-requires-clause-calm
go_on-requires-clause-calm g c = (calm_stop _ _ _ _ _ c.stopped.result c.if-stopped.false c.stopped.ensures.known c.requires.calm).0

pub returns-then-stopped-clause-turns : goal.returns-then-stopped-clause-turns
returns-then-stopped-clause-turns g c = stops _ _ _ _ _ c.stopped.result c.if-stopped.true c.stopped.ensures.known c.requires.calm

pub returns-clause-turns : goal.returns-clause-turns
returns-clause-turns g c =
    turns_after (g.R.Run.view c.args.worker.run) (g.R.Run.view c.stopped.new.self) _ _ _ _ _
    (calm_stop _ _ _ _ _ c.stopped.result c.if-stopped.false c.stopped.ensures.known c.requires.calm).1 c.go_on.ensures.turns
