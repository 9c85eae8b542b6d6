use Rattle.std.proofs.Common.{◌≡◌, drop, map}
use Rattle.kt_prog.specs.Declarations.{is_earlier}
use Rattle.kt_check.specs.Sights.{declared_task}
use Rattle.kt_check.proofs.lookups.is_task_beyond.Given as goal

abbrev pub invariant-loop-task : goal.invariant-loop-task
invariant-loop-task l = is_earlier (map declared_task l.tasks) (record { name = l.name; place = l.place }) ≡ is_earlier (map declared_task (drop l.task-index l.tasks)) (record { name = l.name; place = l.place })
