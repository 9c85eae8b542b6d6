use Rattle.std.proofs.Common.{◌≡◌, drop}
use Rattle.kt_prog.specs.Scope.{known_of}
use Rattle.kt_check.specs.Lets.{let_names}
use Rattle.kt_check.proofs.names.let_kind.Given as goal

abbrev pub invariant-loop-stmt : goal.invariant-loop-stmt
invariant-loop-stmt l = known_of (let_names l.stmts) l.name ≡ known_of (let_names (drop l.stmt-index l.stmts)) l.name
