use Rattle.std.proofs.Common.{◌≡◌, drop}
use Rattle.kt_prog.specs.Declarations.{count_rules}
use Rattle.kt_prog.specs.Refusals.{noted}
use Rattle.kt_check.proofs.declarations.check_counts.Given as goal

abbrev pub invariant-loop-i : goal.invariant-loop-i
invariant-loop-i l = noted l.fn.found (count_rules 0 l.tasks) ≡ noted l.found (count_rules l.i (drop l.i l.tasks))
