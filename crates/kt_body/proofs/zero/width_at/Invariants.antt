use Rattle.std.proofs.Common.{◌≡◌, ◌<◌, ◌^◌, drop}
use Rattle.kt_prog.specs.Objects.{elements_of, width_of}
use Rattle.kt_body.proofs.zero.width_at.Given as goal

abbrev pub invariant-loop-family : goal.invariant-loop-family
invariant-loop-family l =
    let families = drop l.family-index l.program.families in
    (elements_of families < 2 ^ 32) × (width_of l.program.families l.fn.object ≡ width_of families l.rest)
