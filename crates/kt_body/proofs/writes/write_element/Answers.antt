use Rattle.std.proofs.Common.{◌≤◌, ◌<◌, arith}
use Rattle.kt_law.specs.declared.limits.TheConstants.{ELEMENTS}
use Rattle.kt_prog.specs.Objects.{elements_of, width_of}
use Rattle.kt_body.proofs.Steps.{can_next, can_small, ran_err, ran_then}
use Rattle.kt_body.proofs.Values.{below, not_below, ran_denied, ran_tested}
use Rattle.kt_body.proofs.Writing.{can_write, ran_write}
use Rattle.kt_body.specs.declared.ops.Went.TheVariants as went
use Rattle.kt_body.proofs.writes.write_element.Goals as goal

pub width-width-requires : goal.width-width-requires
width-width-requires g c = let small : elements_of c.args.program.now.families ≤ ELEMENTS = (can_small _ c.requires).1 in omega arith

pub returns-then-i-from : goal.returns-then-i-from
returns-then-i-from g c =
    let past : width_of c.args.program.now.families c.args.object ≤ c.args.i = rw (← c.width-width.ensures, ← c.from.ensures) c.if-i-from.true in
    ran_err _ _ (ran_denied _ _ _ _ (not_below _ _ past))

pub do_write-requires : goal.do_write-requires
do_write-requires g c =
    let there : c.args.i < width_of c.args.program.now.families c.args.object = rw (← c.width-width.ensures, ← c.from.ensures) c.if-i-from.false in
    can_write _ _ _ _ _ _ _ _ _ (can_next _ _ c.requires (ran_tested _ _ _ _ (below _ _ there)))

pub returns-in-Went : goal.returns-in-Went
returns-in-Went g c =
    let there : c.args.i < width_of c.args.program.now.families c.args.object = rw (← c.width-width.ensures, ← c.from.ensures) c.if-i-from.false in
    ran_then _ _ (ran_tested _ _ _ _ (below _ _ there)) (ran_write _ _ _ _ _ _ _ _ _ went.Went c.in-Went.ensures)

pub returns-in-Halt : goal.returns-in-Halt
returns-in-Halt g c =
    let there : c.args.i < width_of c.args.program.now.families c.args.object = rw (← c.width-width.ensures, ← c.from.ensures) c.if-i-from.false in
    ran_then _ _ (ran_tested _ _ _ _ (below _ _ there)) (ran_write _ _ _ _ _ _ _ _ _ went.Halt c.in-Halt.ensures)
