use Rattle.std.proofs.Common.{drop}
use Rattle.kt_prog.specs.Kernels.{perform_all}
use Rattle.kt_body.specs.Moves.{Still}
use Rattle.kt_body.specs.Scenes.{deed_of}
use Rattle.kt_tiles.proofs.rows.write_row.Given as goal

abbrev pub invariant-loop-i : goal.invariant-loop-i
invariant-loop-i g l = Still g.O.Ops.at g.O.Ops.goes g.O.Ops.halted l.fn.program
    l.fn.ops (perform_all (deed_of l.write) l.object 0 l.fn.values)
    l.ops (perform_all (deed_of l.write) l.object l.i (drop l.i l.fn.values))
