use Rattle.std.proofs.Common.{◌≡◌, ℕ, ◌<◌, ◌*◌, get_or}
use Rattle.kt_kernels.proofs.Neighbours.{AreWeighted, weighted_at}
use Rattle.kt_kernels.proofs.rows.stencil.Given as goal

abbrev pub invariant-loop-block : goal.invariant-loop-block
invariant-loop-block l = AreWeighted l.left l.row l.right (l.block * 8) l.previous l.out

abbrev pub invariant-loop-at : goal.invariant-loop-at
invariant-loop-at l = (e : ℕ) → e < l.at → get_or l.out e 0 ≡ weighted_at l.left l.row l.right e
