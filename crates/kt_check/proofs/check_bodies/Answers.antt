use Rattle.std.proofs.Common.{◌∙◌}
use Rattle.kt_check.proofs.Noting.{main_step}
use Rattle.kt_check.proofs.Sighting.{main_scope_is}
use Rattle.kt_check.proofs.check_bodies.Goals as goal

pub loop-main-preserved : goal.loop-main-preserved
loop-main-preserved c =
    c.loop-main.invariant
    ∙ main_step c.args.program.now _ _ _ _ _ _ c.loop-main-test.true c.main-item.is (main_scope_is c.args.program.now) (rw c.as_slice.ensures at c.check_block.ensures)
