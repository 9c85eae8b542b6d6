use Rattle.kt_kernels.proofs.Scanned.{IsScanned}
use Rattle.kt_kernels.proofs.rows.scan.Given as goal

abbrev pub invariant-loop-element : goal.invariant-loop-element
invariant-loop-element l = IsScanned l.start l.sum l.element-index l.fn.row l.row
