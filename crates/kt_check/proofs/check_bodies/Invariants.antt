use Rattle.std.proofs.Common.{◌≡◌, drop}
use Rattle.kt_prog.specs.Accepted.{mains_rules}
use Rattle.kt_prog.specs.Refusals.{noted}
use Rattle.kt_check.proofs.check_bodies.Given as goal

abbrev pub invariant-loop-main : goal.invariant-loop-main
invariant-loop-main l = noted l.fn.found (mains_rules l.program l.mains) ≡ noted l.found (mains_rules l.program (drop l.main-index l.mains))
