use Rattle.std.proofs.Common.{refl, ◌∙◌}
use Rattle.kt_check.proofs.Noting.{families_named}
use Rattle.kt_check.proofs.declarations.check_family_names.Goals as goal

pub loop-family-preserved : goal.loop-family-preserved
loop-family-preserved c = c.loop-family.invariant ∙ families_named _ _ _ _ c.loop-family-test.true c.family-item.is _ ∙ rw c.check_name.ensures refl
