use Rattle.std.proofs.Common.{◌≡◌, drop}
use Rattle.kt_check.specs.Late.{families_from}
use Rattle.kt_check.proofs.late.are_families_from.Given as goal

abbrev pub invariant-loop-family : goal.invariant-loop-family
invariant-loop-family l = families_from l.from l.families ≡ families_from l.from (drop l.family-index l.families)
