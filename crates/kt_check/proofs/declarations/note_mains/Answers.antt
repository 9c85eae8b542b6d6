use Rattle.std.proofs.Common.{refl, ◌∙◌}
use Rattle.kt_check.proofs.Noting.{others_next}
use Rattle.kt_check.proofs.declarations.note_mains.Goals as goal

pub loop-main-preserved : goal.loop-main-preserved
loop-main-preserved c = c.loop-main.invariant ∙ others_next _ _ _ c.loop-main-test.true c.main-item.is _ ∙ rw c.note.ensures refl
