use Rattle.std.proofs.Common.{◌-◌, vec_len}
use Rattle.kt_io.proofs.whole.read_all.Given as goal
use Rattle.kt_io.proofs.Loops.{ReadSoFar}

abbrev pub invariant-loop-bytes : goal.invariant-loop-bytes
invariant-loop-bytes g l =
    let source = g.S.Source in
    ReadSoFar (source.left l.fn.source) (source.left l.source) (source.faults l.fn.source) (source.faults l.source) (source.calls l.fn.source) (source.calls l.source) l.fn.limit l.bytes.items

abbrev pub decreases-loop-bytes : goal.decreases-loop-bytes
decreases-loop-bytes g l = l.fn.limit - vec_len l.bytes
