use Rattle.std.proofs.Common.{◌≡◌}
use Rattle.kt_body.proofs.measured.Measured.of.Given as goal

abbrev pub invariant-loop-access : goal.invariant-loop-access
invariant-loop-access l = l.measured ≡ l.fn.program
