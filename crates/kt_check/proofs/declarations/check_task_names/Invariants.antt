use Rattle.std.proofs.Common.{◌≡◌, drop, map}
use Rattle.kt_prog.specs.Declarations.{declared_in, names_twice}
use Rattle.kt_check.specs.Sights.{declared_task}
use Rattle.kt_prog.specs.Refusals.{noted}
use Rattle.kt_check.proofs.declarations.check_task_names.Given as goal

abbrev pub invariant-loop-task : goal.invariant-loop-task
invariant-loop-task l = noted l.fn.found (names_twice (declared_in l.program) (map declared_task l.tasks)) ≡ noted l.found (names_twice (declared_in l.program) (map declared_task (drop l.task-index l.tasks)))
