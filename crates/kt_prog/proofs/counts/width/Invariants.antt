use Rattle.std.proofs.Common.{◌≡◌, ◌<◌, ◌^◌, drop}
use Rattle.kt_prog.specs.Objects.{elements_of, objects_of, width_of}
use Rattle.kt_prog.proofs.counts.width.Given as goal

abbrev pub invariant-loop-family : goal.invariant-loop-family
invariant-loop-family l =
    let families = drop l.family-index l.program.families in
    (l.rest < objects_of families) × (elements_of families < 2 ^ 32) × (width_of l.program.families l.fn.object ≡ width_of families l.rest)
