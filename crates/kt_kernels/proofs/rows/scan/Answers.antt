use Rattle.std.proofs.Common.{length, arith}
use Rattle.std.proofs.lemmas.List.FromFn.{fill_by_all}
use Rattle.kt_kernels.proofs.Scanned.{sum_through}
use Rattle.kt_kernels.proofs.rows.scan.Goals as goal

pub returns : goal.returns
returns c = fill_by_all (sum_through c.args.start c.args.row.now) c.loop-element.row (length c.args.row.now) 0 (omega arith) (λ e lt. c.loop-element.invariant.written e (omega arith))
