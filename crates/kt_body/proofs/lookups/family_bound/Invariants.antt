use Rattle.std.proofs.Common.{◌≡◌, ◌+◌, ◌≤◌, drop}
use Rattle.kt_law.specs.declared.limits.TheConstants.{OBJECTS}
use Rattle.kt_prog.specs.Locals.{family_of}
use Rattle.kt_prog.specs.Objects.{objects_of}
use Rattle.kt_body.proofs.lookups.family_bound.Given as goal

abbrev pub invariant-loop-family : goal.invariant-loop-family
invariant-loop-family l =
    (l.first + objects_of (drop l.family-index l.families) ≤ OBJECTS)
    × (family_of 0 l.families l.name ≡ family_of l.first (drop l.family-index l.families) l.name)
