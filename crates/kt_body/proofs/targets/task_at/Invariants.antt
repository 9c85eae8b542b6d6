use Rattle.std.proofs.Common.{◌≡◌, ◌+◌, drop}
use Rattle.kt_prog.specs.Targets.{task_named}
use Rattle.kt_body.proofs.targets.task_at.Given as goal

abbrev pub invariant-loop-task : goal.invariant-loop-task
invariant-loop-task l = (l.number ≡ l.task-index + 1) × (task_named 1 l.fn.tasks l.fn.name ≡ task_named l.number (drop l.task-index l.fn.tasks) l.fn.name)
