use Rattle.std.proofs.Common.{refl, ◌∙◌}
use Rattle.kt_check.proofs.Noting.{tasks_named}
use Rattle.kt_check.proofs.declarations.check_task_names.Goals as goal

pub loop-task-preserved : goal.loop-task-preserved
loop-task-preserved c = c.loop-task.invariant ∙ tasks_named _ _ _ _ c.loop-task-test.true c.task-item.is _ ∙ rw c.check_name.ensures refl
