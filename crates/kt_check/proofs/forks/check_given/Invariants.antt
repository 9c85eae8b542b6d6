use Rattle.std.proofs.Common.{◌≡◌, drop, map}
use Rattle.kt_prog.specs.ForkRules.{argument_rules}
use Rattle.kt_prog.specs.Refusals.{noted}
use Rattle.kt_check.specs.Sights.{scope_of, sort_of}
use Rattle.kt_check.proofs.forks.check_given.Given as goal

abbrev pub invariant-loop-i : goal.invariant-loop-i
invariant-loop-i l = noted l.fn.found (argument_rules (map sort_of l.params) (scope_of l.sight) l.args) ≡ noted l.found (argument_rules (map sort_of (drop l.i l.params)) (scope_of l.sight) (drop l.i l.args))
