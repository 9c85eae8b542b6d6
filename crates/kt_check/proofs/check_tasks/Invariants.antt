use Rattle.std.proofs.Common.{◌≡◌, drop}
use Rattle.kt_prog.specs.Accepted.{task_rules}
use Rattle.kt_prog.specs.Refusals.{noted}
use Rattle.kt_check.proofs.check_tasks.Given as goal

abbrev pub invariant-loop-task : goal.invariant-loop-task
invariant-loop-task l = noted l.fn.found (task_rules l.program l.tasks) ≡ noted l.found (task_rules l.program (drop l.task-index l.tasks))
