use Rattle.std.proofs.Common.{◌≡◌, ℕ, ◌<◌, ◌*◌, get_or}
use Rattle.kt_kernels.specs.Products.{element_of}
use Rattle.kt_kernels.proofs.products.multiply_row.Given as goal

abbrev pub invariant-loop-block : goal.invariant-loop-block
invariant-loop-block g l = (j : ℕ) → j < l.block * 8 → get_or l.out j 0 ≡ element_of g.S.Semiring.plus g.S.Semiring.times g.S.Semiring.ZERO l.row l.b l.width j

abbrev pub invariant-loop-column : goal.invariant-loop-column
invariant-loop-column g l = (j : ℕ) → j < l.column → get_or l.out j 0 ≡ element_of g.S.Semiring.plus g.S.Semiring.times g.S.Semiring.ZERO l.row l.b l.width j
