use Rattle.std.proofs.Common.{◌≡◌, ◌-◌, drop, length}
use Rattle.kt_check.specs.Lets.{let_names}
use Rattle.kt_check.proofs.names.room_behind.Given as goal

abbrev pub invariant-loop-stmt : goal.invariant-loop-stmt
invariant-loop-stmt l = l.fn.room - length (let_names l.stmts) ≡ l.left - length (let_names (drop l.stmt-index l.stmts))
