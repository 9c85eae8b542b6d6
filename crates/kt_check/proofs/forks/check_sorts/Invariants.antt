use Rattle.std.proofs.Common.{◌≡◌, drop}
use Rattle.kt_prog.specs.ForkRules.{argument_rules}
use Rattle.kt_prog.specs.Refusals.{noted}
use Rattle.kt_check.specs.Sights.{scope_of}
use Rattle.kt_check.proofs.forks.check_sorts.Given as goal

abbrev pub invariant-loop-i : goal.invariant-loop-i
invariant-loop-i l = noted l.fn.found (argument_rules l.sorts (scope_of l.sight) l.args) ≡ noted l.found (argument_rules (drop l.i l.sorts) (scope_of l.sight) (drop l.i l.args))
