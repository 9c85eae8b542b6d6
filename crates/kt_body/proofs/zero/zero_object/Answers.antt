use Rattle.std.proofs.Common.{◌≤◌, arith}
use Rattle.kt_law.specs.declared.limits.TheConstants.{ELEMENTS}
use Rattle.kt_prog.specs.Objects.{elements_of}
use Rattle.kt_body.proofs.Steps.{still_here, still_is, still_can, still_next, still_err, can_small, can_store, ran_give, ran_store}
use Rattle.kt_body.proofs.Zeros.{elements_begin, elements_more, elements_none}
use Rattle.kt_body.specs.declared.ops.Went.TheVariants as went
use Rattle.kt_body.proofs.zero.zero_object.Goals as goal

pub width_at-width-requires : goal.width_at-width-requires
width_at-width-requires g c = let small : elements_of c.args.program.now.families ≤ ELEMENTS = (can_small _ c.requires).1 in omega arith

pub loop-element-init : goal.loop-element-init
loop-element-init g c = still_is _ _ _ (still_here _ c.requires) (elements_begin _ _ _ c.width_at-width.ensures)

pub store-requires : goal.store-requires
store-requires g c =
    let s = still_is _ _ _ c.loop-element.invariant (elements_more _ _ _ c.loop-element-test.true) in
    can_store _ _ _ _ _ (still_can _ _ _ s)

pub returns-in-Halt : goal.returns-in-Halt
returns-in-Halt g c =
    let s = still_is _ _ _ c.loop-element.invariant (elements_more _ _ _ c.loop-element-test.true) in
    still_err _ _ _ s (ran_store _ _ _ _ _ _ _ _ went.Halt c.in-Halt.ensures)

pub loop-element-preserved : goal.loop-element-preserved
loop-element-preserved g c =
    let s = still_is _ _ _ c.loop-element.invariant (elements_more _ _ _ c.loop-element-test.true) in
    still_next _ _ _ s (ran_store _ _ _ _ _ _ _ _ went.Went c.in-Went.ensures)

pub returns : goal.returns
returns g c = (still_is _ _ _ c.loop-element.invariant (elements_none _ _ _ c.loop-element-test.false)).ends _ _ (ran_give _ _)
