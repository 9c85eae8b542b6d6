use Rattle.std.proofs.Common.{refl, ◌∙◌}
use Rattle.kt_check.proofs.Noting.{unknown_next}
use Rattle.kt_check.proofs.forks.check_all_names.Goals as goal

pub loop-arg-preserved : goal.loop-arg-preserved
loop-arg-preserved c = c.loop-arg.invariant ∙ unknown_next _ _ _ _ c.loop-arg-test.true c.arg-item.is _ ∙ rw c.check_names_in.ensures refl
