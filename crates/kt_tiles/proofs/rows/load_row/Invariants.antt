use Rattle.std.proofs.Common.{◌≡◌, length}
use Rattle.kt_prog.specs.Kernels.{load_all}
use Rattle.kt_body.specs.Moves.{Still}
use Rattle.kt_tiles.proofs.Rowed.{loads_left}
use Rattle.kt_tiles.proofs.rows.load_row.Given as goal

abbrev pub invariant-loop-i : goal.invariant-loop-i
invariant-loop-i g l = (length l.into ≡ length l.fn.into)
    × Still g.O.Ops.at g.O.Ops.goes g.O.Ops.halted l.fn.program
    l.fn.ops (load_all l.object 0 (length l.fn.into))
    l.ops (loads_left l.object l.i (length l.fn.into) l.into)
