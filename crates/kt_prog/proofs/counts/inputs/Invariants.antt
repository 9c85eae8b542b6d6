use Rattle.std.proofs.Common.{◌≡◌, ◌+◌, ◌<◌, ◌^◌, drop}
use Rattle.kt_prog.specs.Objects.{elements_of, inputs_of}
use Rattle.kt_prog.proofs.counts.inputs.Given as goal

abbrev pub invariant-loop-family : goal.invariant-loop-family
invariant-loop-family l =
    let families = drop l.family-index l.program.families in
    (l.count + elements_of families < 2 ^ 32) × (l.count + inputs_of families ≡ inputs_of l.program.families)
