use Rattle.kt_ready.specs.Contents.{HasRoomOf}
use Rattle.kt_worker.specs.Asking.{Asks}
use Rattle.kt_worker.proofs.asking.ask.Given as goal

abbrev pub invariant-loop : goal.invariant-loop
invariant-loop g l =
    (goal.iterator-loop g).can_next l.iterator' × (goal.iterator-loop g).is_finite l.iterator'
    × Asks (g.R.Run.view l.fn.run) (g.R.Run.view l.run)
    × HasRoomOf l.fn.scan l.scan
