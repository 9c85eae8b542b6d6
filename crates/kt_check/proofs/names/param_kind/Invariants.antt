use Rattle.std.proofs.Common.{◌≡◌, drop, map}
use Rattle.kt_prog.specs.Scope.{known_of, known_param}
use Rattle.kt_check.proofs.names.param_kind.Given as goal

abbrev pub invariant-loop-param : goal.invariant-loop-param
invariant-loop-param l = known_of (map known_param l.params) l.name ≡ known_of (map known_param (drop l.param-index l.params)) l.name
