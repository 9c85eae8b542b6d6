use Rattle.std.proofs.Common.{◌≡◌, drop}
use Rattle.kt_prog.specs.ForkRules.{unknown_in_all}
use Rattle.kt_prog.specs.Refusals.{noted}
use Rattle.kt_check.specs.Sights.{scope_of}
use Rattle.kt_check.proofs.forks.check_all_names.Given as goal

abbrev pub invariant-loop-arg : goal.invariant-loop-arg
invariant-loop-arg l = noted l.fn.found (unknown_in_all (scope_of l.sight) l.args) ≡ noted l.found (unknown_in_all (scope_of l.sight) (drop l.arg-index l.args))
