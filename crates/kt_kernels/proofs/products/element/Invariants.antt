use Rattle.std.proofs.Common.{◌≡◌}
use Rattle.kt_kernels.proofs.Sums.{sum_to}
use Rattle.kt_kernels.proofs.products.element.Given as goal

abbrev pub invariant-loop-k : goal.invariant-loop-k
invariant-loop-k g l = l.sum ≡ sum_to g.S.Semiring.plus g.S.Semiring.times g.S.Semiring.ZERO l.row l.b l.width l.k l.column
