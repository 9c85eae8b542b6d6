use Rattle.std.proofs.Common.{sym, subst}
use Rattle.std.proofs.lemmas.List.{take_rest}
use Rattle.kt_io.proofs.Loops.{WroteSoFar, wrote_more}
use Rattle.kt_io.proofs.whole.write_all.Goals as goal

pub loop-rest-preserved : goal.loop-rest-preserved
loop-rest-preserved g c =
    let wrote = c.in_ok-count.ensures in
    subst (WroteSoFar _ _ _ _ _ _ _) (sym (take_rest c.loop-rest.rest.now c.in_ok-count.count))
    (wrote_more _ _ _ _ _ _ _ _ _ _ _ _ c.loop-rest.invariant wrote.bytes wrote.bound.0 wrote.bound.1 wrote.cause.later wrote.once)
