use Rattle.std.proofs.Common.{◌≡◌, ◌+◌, drop}
use Rattle.kt_prog.specs.Objects.{objects_of}
use Rattle.kt_prog.proofs.counts.objects.Given as goal

abbrev pub invariant-loop-family : goal.invariant-loop-family
invariant-loop-family l = l.count + objects_of (drop l.family-index l.program.families) ≡ objects_of l.program.families
