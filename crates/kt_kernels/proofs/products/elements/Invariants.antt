use Rattle.std.proofs.Common.{◌≡◌, map}
use Rattle.std.specs.List.{range_with_len}
use Rattle.kt_kernels.proofs.Sums.{sum_to}
use Rattle.kt_kernels.proofs.products.elements.Given as goal

abbrev pub invariant-loop-k : goal.invariant-loop-k
invariant-loop-k g l = l.sums ≡ map (sum_to g.S.Semiring.plus g.S.Semiring.times g.S.Semiring.ZERO l.row l.b l.width l.k) (range_with_len l.column 8)
