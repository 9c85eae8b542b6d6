use Rattle.std.proofs.Common.{◌≡◌, drop}
use Rattle.kt_prog.specs.Declarations.{other_mains}
use Rattle.kt_prog.specs.Refusals.{noted}
use Rattle.kt_check.proofs.declarations.note_mains.Given as goal

abbrev pub invariant-loop-main : goal.invariant-loop-main
invariant-loop-main l = noted l.fn.found (other_mains l.mains) ≡ noted l.found (other_mains (drop l.main-index l.mains))
