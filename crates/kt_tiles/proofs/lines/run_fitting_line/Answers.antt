use Rattle.kt_body.proofs.Steps.{ran_same, still_here, still_is}
use Rattle.kt_prog.specs.Objects.{width_of}
use Rattle.kt_tiles.proofs.Kernels.{smooth_none, smooth_some}
use Rattle.kt_tiles.proofs.lines.run_fitting_line.Goals as goal

pub returns-then-s-eq0 : goal.returns-then-s-eq0
returns-then-s-eq0 g c = ran_same _ _ _ (smooth_none (width_of c.args.program.now.families) _ _ _ _ _ c.if-s-eq0.true)

pub run_line_in-requires-clause-can : goal.run_line_in-requires-clause-can
run_line_in-requires-clause-can g c =
    (still_is _ _ _ (still_here _ c.requires.can) (smooth_some (width_of c.args.program.now.families) _ _ _ _ _ c.if-s-eq0.false)).can

pub returns-else-s-eq0 : goal.returns-else-s-eq0
returns-else-s-eq0 g c =
    (still_is _ _ _ (still_here _ c.requires.can) (smooth_some (width_of c.args.program.now.families) _ _ _ _ _ c.if-s-eq0.false)).ends _ _ c.run_line_in.ensures
