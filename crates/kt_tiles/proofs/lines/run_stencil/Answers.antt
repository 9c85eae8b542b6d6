use Rattle.std.proofs.Common.{◌≤◌, arith, sym, ◌∙◌}
use Rattle.kt_law.specs.declared.limits.TheConstants.{ELEMENTS}
use Rattle.kt_prog.specs.Objects.{elements_of, width_of}
use Rattle.kt_body.proofs.Steps.{can_next, can_small, ran_err, ran_then}
use Rattle.kt_body.proofs.Values.{ran_denied, ran_tested}
use Rattle.kt_tiles.proofs.Kernels.{line_tiled}
use Rattle.kt_tiles.proofs.Widths.{narrow}
use Rattle.kt_tiles.proofs.lines.run_stencil.Goals as goal

pub is_line_fitting-requires : goal.is_line_fitting-requires
is_line_fitting-requires g c = let small : elements_of c.args.program.now.families ≤ ELEMENTS = (can_small _ c.requires.can).1 in omega (arith, small)

pub run_fitting_line-requires-clause-can : goal.run_fitting_line-requires-clause-can
run_fitting_line-requires-clause-can g c = can_next _ _ c.requires.can (ran_tested _ _ _ _ (sym c.is_line_fitting.ensures ∙ c.if-is_line_fitting.true))

pub run_fitting_line-requires-clause-few : goal.run_fitting_line-requires-clause-few
run_fitting_line-requires-clause-few g c =
    line_tiled (width_of c.args.program.now.families) (narrow c.args.program.now c.requires.can.ready.accepted) c.args.s.now (sym c.is_line_fitting.ensures ∙ c.if-is_line_fitting.true)

pub returns-then-is_line_fitting : goal.returns-then-is_line_fitting
returns-then-is_line_fitting g c = ran_then _ _ (ran_tested _ _ _ _ (sym c.is_line_fitting.ensures ∙ c.if-is_line_fitting.true)) c.run_fitting_line.ensures

pub returns-else-is_line_fitting : goal.returns-else-is_line_fitting
returns-else-is_line_fitting g c = ran_err _ _ (ran_denied _ _ _ _ (sym c.is_line_fitting.ensures ∙ c.if-is_line_fitting.false))
