use Rattle.std.proofs.Common.{◌≡◌, ◌≤◌, drop}
use Rattle.kt_law.specs.declared.limits.TheConstants.{ELEMENTS, OBJECTS}
use Rattle.kt_prog.specs.Declarations.{family_rules}
use Rattle.kt_prog.specs.Refusals.{noted}
use Rattle.kt_check.proofs.declarations.check_families.Given as goal

abbrev pub invariant-loop-family : goal.invariant-loop-family
invariant-loop-family l = (l.objects ≤ OBJECTS) × (l.elements ≤ ELEMENTS) × (noted l.fn.found (family_rules 0 0 l.families) ≡ noted l.found (family_rules l.objects l.elements (drop l.family-index l.families)))
