use Rattle.std.proofs.Common.{◌≡◌, drop}
use Rattle.kt_prog.specs.Scope.{family_known}
use Rattle.kt_check.proofs.lookups.family_kind_listed.Given as goal

abbrev pub invariant-loop-family : goal.invariant-loop-family
invariant-loop-family l = family_known l.families l.name ≡ family_known (drop l.family-index l.families) l.name
