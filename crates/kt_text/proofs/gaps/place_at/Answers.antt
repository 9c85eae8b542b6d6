use Rattle.std.proofs.Common.{arith, length-take, take}
use Rattle.kt_text.proofs.PlaceSteps.{place_of-small}
use Rattle.kt_text.proofs.gaps.place_at.Goals as goal

pub place_behind-place-requires-clause-column : goal.place_behind-place-requires-clause-column
place_behind-place-requires-clause-column c =
    let before = take c.args.at c.args.text.now in
    let small = place_of-small before c.loop-byte.byte-index in
    rw c.loop-byte.invariant (omega (arith, small.column, c.requires.short, c.loop-byte-test.true, length-take c.args.at c.args.text.now))
