use Rattle.std.proofs.Common.{◌≡◌, ◌+◌, ◌≤◌, ◌<◌, arith, length, length-take}
use Rattle.kt_io.proofs.Loops.{took_piece, took_past, taken_past, no_memory_alone}
use Rattle.kt_io.proofs.whole.read_all.Goals as goal

pub returns-then-count-room-clause-too_long : goal.returns-then-count-room-clause-too_long
returns-then-count-room-clause-too_long g c =
    let past : c.args.limit < length c.loop-bytes.bytes.items + c.in_ok-count.count = omega arith in
    λ _. taken_past _ _ _ _ _ _ _ c.loop-bytes.invariant.taken c.in_ok-count.ensures.bytes.0 c.in_ok-count.ensures.bound.0 past

pub returns-then-count-room-clause-taken : goal.returns-then-count-room-clause-taken
returns-then-count-room-clause-taken g c =
    let given = c.in_ok-count.ensures in
    let fits = given.bound.0 in
    let filled = c.read.auto.into in
    let asked = length-take c.min-ask.result c.loop-bytes.piece in
    let one_more : length c.loop-bytes.bytes.items + c.in_ok-count.count ≡ c.args.limit + 1 = omega (arith, fits, filled, asked) in
    took_past _ _ _ _ _ _ _ _ c.loop-bytes.invariant.taken given.bytes.0 fits one_more (cc)

pub returns-in_err-extend_from_slice-clause-taken :
    goal.returns-in_err-extend_from_slice-clause-taken
returns-in_err-extend_from_slice-clause-taken g c =
    let given = c.in_ok-count.ensures in
    let few : length c.loop-bytes.bytes.items + c.in_ok-count.count ≤ c.args.limit = omega arith in
    took_piece _ _ _ _ _ _ _ _ c.loop-bytes.invariant.taken given.bytes.0 given.bound.0 few (no_memory_alone _ c.from_residual-in_err-extend_from_slice.ensures.1)
