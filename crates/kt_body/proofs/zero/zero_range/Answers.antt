use Rattle.kt_body.proofs.Steps.{still_here, still_is, still_can, still_next, still_err, ran_give}
use Rattle.kt_body.proofs.Zeros.{objects_more, objects_none}
use Rattle.kt_body.proofs.zero.zero_range.Goals as goal

pub loop-object-init : goal.loop-object-init
loop-object-init g c = still_here _ c.requires

pub zero_object-requires : goal.zero_object-requires
zero_object-requires g c = still_can _ _ _ (still_is _ _ _ c.loop-object.invariant (objects_more _ _ _ c.loop-object-test.true))

pub returns-in-Halt : goal.returns-in-Halt
returns-in-Halt g c = still_err _ _ _ (still_is _ _ _ c.loop-object.invariant (objects_more _ _ _ c.loop-object-test.true)) c.in-Halt.ensures

pub loop-object-preserved : goal.loop-object-preserved
loop-object-preserved g c = still_next _ _ _ (still_is _ _ _ c.loop-object.invariant (objects_more _ _ _ c.loop-object-test.true)) c.in-Went.ensures

pub returns : goal.returns
returns g c = (still_is _ _ _ c.loop-object.invariant (objects_none _ _ _ c.loop-object-test.false)).ends _ _ (ran_give _ _)
