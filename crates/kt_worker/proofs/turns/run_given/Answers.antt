use Rattle.kt_worker.proofs.Turning.{begun_goes, begun_stops, start_crew, start, start_inside, turns_after}
use Rattle.kt_worker.proofs.turns.run_given.Goals as goal

pub start-requires : goal.start-requires
start-requires g c = record {
  crew = start_crew _ _ _ _ _ c.requires.given;
  inside = start_inside _ _ _ _ _ c.requires.given;
  given = start _ _ _ _ _ c.requires.given;
}

pub run_begun-requires-clause-begun : goal.run_begun-requires-clause-begun
run_begun-requires-clause-begun g c =
    (begun_goes _ _ _ _ _ c.requires.given _ c.start.ensures.started c.start.ensures.few _ c.stopped.result c.if-stopped.false c.stopped.ensures.known).0

pub returns-then-stopped-clause-turns : goal.returns-then-stopped-clause-turns
returns-then-stopped-clause-turns g c =
    begun_stops _ _ _ _ _ c.requires.given _ c.start.ensures.started c.start.ensures.few _ c.stopped.result c.if-stopped.true c.stopped.ensures.known

pub returns-clause-turns : goal.returns-clause-turns
returns-clause-turns g c =
    turns_after (g.R.Run.view c.args.worker.run) (g.R.Run.view c.stopped.new.self) _ _ _ _ _
    (begun_goes _ _ _ _ _ c.requires.given _ c.start.ensures.started c.start.ensures.few _ c.stopped.result c.if-stopped.false c.stopped.ensures.known).1
    c.run_begun.ensures.turns
