use Rattle.std.proofs.Common.{◌<◌, length, refl, ◌∙◌}
use Rattle.kt_check.proofs.Noting.{arguments_step}
use Rattle.kt_check.proofs.forks.check_sorts.Goals as goal

pub loop-i-preserved : goal.loop-i-preserved
loop-i-preserved c =
    let lt : c.loop-i.i < length c.args.sorts.now = rw (← c.requires) c.loop-i-test.true in
    c.loop-i.invariant ∙ arguments_step _ _ _ _ _ _ _ _ _ lt c.loop-i-test.true refl c.index-args-i.is c.check_argument.ensures
