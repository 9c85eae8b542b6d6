use Rattle.kt_intervals.specs.Drains.{Drains}
use Rattle.kt_intervals.proofs.intervals.run_interval.Given as goal

abbrev pub invariant-loop : goal.invariant-loop
invariant-loop g l =
    (goal.iterator-loop g).can_next l.iterator' × (goal.iterator-loop g).is_finite l.iterator'
    × Drains l.at (g.R.Run.view l.fn.run) (g.R.Run.view l.now.run) l.fn.fault l.now.fault
