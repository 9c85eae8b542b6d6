use Rattle.std.proofs.Common.{◌≡◌, drop}
use Rattle.kt_check.specs.Late.{arguments_late}
use Rattle.kt_check.proofs.late.are_arguments_late.Given as goal

abbrev pub invariant-loop-arg : goal.invariant-loop-arg
invariant-loop-arg l = arguments_late l.found l.args ≡ arguments_late l.found (drop l.arg-index l.args)
