use Rattle.std.proofs.Common.{◌≡◌, drop}
use Rattle.kt_check.specs.Late.{tasks_from}
use Rattle.kt_check.proofs.late.are_tasks_from.Given as goal

abbrev pub invariant-loop-task : goal.invariant-loop-task
invariant-loop-task l = tasks_from l.from l.tasks ≡ tasks_from l.from (drop l.task-index l.tasks)
