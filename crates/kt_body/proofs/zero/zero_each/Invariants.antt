use Rattle.std.proofs.Common.{drop}
use Rattle.kt_prog.specs.Zeroing.{zero_all}
use Rattle.kt_body.specs.Moves.{Still}
use Rattle.kt_body.proofs.zero.zero_each.Given as goal
use Rattle.kt_prog.specs.Objects.{width_of}

abbrev pub invariant-loop-access : goal.invariant-loop-access
invariant-loop-access g l = Still g.O.Ops.at g.O.Ops.goes g.O.Ops.halted l.fn.program
    l.fn.ops (zero_all (width_of l.program.families) l.fn.accesses)
    l.ops (zero_all (width_of l.program.families) (drop l.access-index l.fn.accesses))
