use Rattle.std.proofs.Common.{◌≡◌, ℕ, ◌<◌, ◌*◌, get_or}
use Rattle.kt_kernels.proofs.Cells.{cell}
use Rattle.kt_kernels.proofs.products.multiply.Given as goal

abbrev pub invariant-loop-i : goal.invariant-loop-i
invariant-loop-i g l = (e : ℕ) → e < l.i * l.q → get_or l.out e 0 ≡ cell g.S.Semiring.plus g.S.Semiring.times g.S.Semiring.ZERO l.a l.b l.p l.q e
