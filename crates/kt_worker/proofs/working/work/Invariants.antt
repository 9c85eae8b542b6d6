use Rattle.std.proofs.Common.{◌≡◌}
use Rattle.kt_worker.specs.Levels.{Turns}
use Rattle.kt_intervals.specs.Programs.{HasFirsts}
use Rattle.kt_worker.specs.Programs.{HasRoom}
use Rattle.kt_worker.proofs.working.work.Given as goal

abbrev pub invariant-loop : goal.invariant-loop
invariant-loop g l =
    (goal.iterator-loop g).can_next l.iterator' × (goal.iterator-loop g).is_finite l.iterator'
    × Turns (g.R.Run.view l.fn.run) (g.R.Run.view l.worker.run) l.fn.program l.worker.tally l.tools.stack.levels l.more
    × (l.worker.program.now ≡ l.fn.program) × HasFirsts l.fn.program.families l.worker.firsts.now × HasRoom l.fn.program l.tools
