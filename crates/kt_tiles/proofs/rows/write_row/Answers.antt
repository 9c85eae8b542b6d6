use Rattle.kt_body.specs.declared.ops.Went.TheVariants as went
use Rattle.kt_body.proofs.Steps.{ran_give, still_can, still_err, still_here, still_is, still_next}
use Rattle.kt_body.proofs.Writing.{can_write, ran_write}
use Rattle.kt_tiles.proofs.Rowed.{write_more, write_none}
use Rattle.kt_tiles.proofs.rows.write_row.Goals as goal

pub loop-i-init : goal.loop-i-init
loop-i-init g c = still_here _ c.requires.can

pub do_write-requires : goal.do_write-requires
do_write-requires g c =
    let s = still_is _ _ _ c.loop-i.invariant (write_more _ _ _ _ c.loop-i-test.true) in
    can_write _ _ _ _ _ _ _ _ _ (still_can _ _ _ s)

pub returns-in-Halt : goal.returns-in-Halt
returns-in-Halt g c =
    let s = still_is _ _ _ c.loop-i.invariant (write_more _ _ _ _ c.loop-i-test.true) in
    still_err _ _ _ s (ran_write _ _ _ _ _ _ _ _ _ went.Halt c.in-Halt.ensures)

pub loop-i-preserved : goal.loop-i-preserved
loop-i-preserved g c =
    let s = still_is _ _ _ c.loop-i.invariant (write_more _ _ _ _ c.loop-i-test.true) in
    still_next _ _ _ s (ran_write _ _ _ _ _ _ _ _ _ went.Went c.in-Went.ensures)

pub returns : goal.returns
returns g c = (still_is _ _ _ c.loop-i.invariant (write_none _ _ _ _ c.loop-i-test.false)).ends _ _ (ran_give _ _)
