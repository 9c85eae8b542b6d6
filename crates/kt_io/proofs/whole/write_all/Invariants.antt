use Rattle.std.proofs.Common.{length}
use Rattle.kt_io.proofs.whole.write_all.Given as goal
use Rattle.kt_io.proofs.Loops.{WroteSoFar}

abbrev pub invariant-loop-rest : goal.invariant-loop-rest
invariant-loop-rest g l =
    let sink = g.K.Sink in
    WroteSoFar (sink.written l.fn.sink) (sink.written l.sink) (sink.faults l.fn.sink) (sink.faults l.sink) (sink.calls l.fn.sink) (sink.calls l.sink) l.fn.bytes l.rest

abbrev pub decreases-loop-rest : goal.decreases-loop-rest
decreases-loop-rest g l = length l.rest
