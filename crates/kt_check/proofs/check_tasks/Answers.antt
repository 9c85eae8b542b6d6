use Rattle.std.proofs.Common.{◌∙◌}
use Rattle.kt_check.proofs.Noting.{task_step}
use Rattle.kt_check.proofs.Sighting.{head_scope}
use Rattle.kt_check.proofs.check_tasks.Goals as goal

pub loop-task-preserved : goal.loop-task-preserved
loop-task-preserved c =
    c.loop-task.invariant
    ∙ task_step c.args.program.now _ _ _ _ _ _ _ c.loop-task-test.true c.task-item.is (head_scope c.args.program.now _ _ c.is_some.ensures)
    (rw c.as_slice.ensures at c.check_params.ensures) (rw c.as_slice-in-loop-task.ensures at c.check_block.ensures)
