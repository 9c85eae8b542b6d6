use Rattle.std.proofs.Common.{◌<◌, length, refl, ◌∙◌}
use Rattle.kt_check.proofs.Noting.{given_next}
use Rattle.kt_check.proofs.forks.check_given.Goals as goal

pub loop-i-preserved : goal.loop-i-preserved
loop-i-preserved c =
    let lt : c.loop-i.i < length c.args.params.now = rw (← c.requires) c.loop-i-test.true in
    c.loop-i.invariant ∙ given_next _ _ _ _ _ _ lt c.loop-i-test.true c.index-params-i.is c.index-args-i.is _ ∙ rw c.check_argument.ensures refl
