use Rattle.std.proofs.Common.{◌≡◌, drop, map}
use Rattle.kt_prog.specs.Declarations.{declared_in, names_twice}
use Rattle.kt_check.specs.Sights.{declared_family}
use Rattle.kt_prog.specs.Refusals.{noted}
use Rattle.kt_check.proofs.declarations.check_family_names.Given as goal

abbrev pub invariant-loop-family : goal.invariant-loop-family
invariant-loop-family l = noted l.fn.found (names_twice (declared_in l.program) (map declared_family l.families)) ≡ noted l.found (names_twice (declared_in l.program) (map declared_family (drop l.family-index l.families)))
