use Rattle.std.proofs.Common.{◌≡◌, ◌+◌, ◌<◌, ◌^◌, drop}
use Rattle.kt_prog.specs.Objects.{elements_of, first_element_of, objects_of}
use Rattle.kt_prog.proofs.counts.first_element.Given as goal

abbrev pub invariant-loop-family : goal.invariant-loop-family
invariant-loop-family l =
    let families = drop l.family-index l.program.families in
    (l.rest < objects_of families) × (l.first + elements_of families < 2 ^ 32) × (l.first + first_element_of families l.rest ≡ first_element_of l.program.families l.fn.object)
