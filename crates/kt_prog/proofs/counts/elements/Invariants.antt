use Rattle.std.proofs.Common.{◌≡◌, ◌+◌, drop}
use Rattle.kt_prog.specs.Objects.{elements_of}
use Rattle.kt_prog.proofs.counts.elements.Given as goal

abbrev pub invariant-loop-family : goal.invariant-loop-family
invariant-loop-family l = l.count + elements_of (drop l.family-index l.program.families) ≡ elements_of l.program.families
