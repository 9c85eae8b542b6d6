use Rattle.std.proofs.Common.{◌-◌}
use Rattle.kt_prog.specs.Zeroing.{zero_objects}
use Rattle.kt_body.specs.Moves.{Still}
use Rattle.kt_body.proofs.zero.zero_range.Given as goal
use Rattle.kt_prog.specs.Objects.{width_of}

abbrev pub invariant-loop-object : goal.invariant-loop-object
invariant-loop-object g l = Still g.O.Ops.at g.O.Ops.goes g.O.Ops.halted l.fn.program
    l.fn.ops (zero_objects (width_of l.program.families) l.fn.lo (l.fn.hi - l.fn.lo))
    l.ops (zero_objects (width_of l.program.families) l.object (l.fn.hi - l.object))
