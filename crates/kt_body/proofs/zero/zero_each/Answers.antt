use Rattle.kt_body.proofs.Steps.{still_here, still_is, still_can, still_next, still_err, ran_give}
use Rattle.kt_body.proofs.Zeros.{all_more, all_none}
use Rattle.kt_body.proofs.zero.zero_each.Goals as goal

pub loop-access-init : goal.loop-access-init
loop-access-init g c = still_here _ c.requires

pub zero_one-requires : goal.zero_one-requires
zero_one-requires g c = still_can _ _ _ (still_is _ _ _ c.loop-access.invariant (all_more _ _ _ _ c.loop-access-test.true))

pub returns-in-Halt : goal.returns-in-Halt
returns-in-Halt g c = still_err _ _ _ (still_is _ _ _ c.loop-access.invariant (all_more _ _ _ _ c.loop-access-test.true)) c.in-Halt.ensures

pub loop-access-preserved : goal.loop-access-preserved
loop-access-preserved g c = still_next _ _ _ (still_is _ _ _ c.loop-access.invariant (all_more _ _ _ _ c.loop-access-test.true)) c.in-Went.ensures

pub returns : goal.returns
returns g c = (still_is _ _ _ c.loop-access.invariant (all_none _ _ _ c.loop-access-test.false)).ends _ _ (ran_give _ _)
