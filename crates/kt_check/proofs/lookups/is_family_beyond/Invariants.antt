use Rattle.std.proofs.Common.{◌≡◌, drop, map}
use Rattle.kt_prog.specs.Declarations.{is_earlier}
use Rattle.kt_check.specs.Sights.{declared_family}
use Rattle.kt_check.proofs.lookups.is_family_beyond.Given as goal

abbrev pub invariant-loop-family : goal.invariant-loop-family
invariant-loop-family l = is_earlier (map declared_family l.families) (record { name = l.name; place = l.place }) ≡ is_earlier (map declared_family (drop l.family-index l.families)) (record { name = l.name; place = l.place })
