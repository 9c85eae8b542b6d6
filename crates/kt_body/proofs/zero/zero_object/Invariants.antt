use Rattle.std.proofs.Common.{◌-◌}
use Rattle.kt_prog.specs.Objects.{width_of}
use Rattle.kt_prog.specs.Zeroing.{zero_elements}
use Rattle.kt_body.specs.Moves.{Still}
use Rattle.kt_body.proofs.zero.zero_object.Given as goal

abbrev pub invariant-loop-element : goal.invariant-loop-element
invariant-loop-element g l = Still g.O.Ops.at g.O.Ops.goes g.O.Ops.halted l.fn.program
    l.fn.ops (zero_elements l.object 0 (width_of l.program.families l.object))
    l.ops (zero_elements l.object l.element (l.width - l.element))
