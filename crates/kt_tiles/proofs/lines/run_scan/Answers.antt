use Rattle.std.proofs.Common.{◌≤◌, arith, sym, ◌∙◌}
use Rattle.kt_law.specs.declared.limits.TheConstants.{ELEMENTS}
use Rattle.kt_prog.specs.Objects.{elements_of, width_of}
use Rattle.kt_body.proofs.Steps.{can_next, can_small, ran_err, ran_then}
use Rattle.kt_body.proofs.Values.{ran_denied, ran_tested}
use Rattle.kt_tiles.proofs.Kernels.{sum_tiled}
use Rattle.kt_tiles.proofs.Widths.{narrow}
use Rattle.kt_tiles.proofs.lines.run_scan.Goals as goal

pub is_sum_fitting-requires : goal.is_sum_fitting-requires
is_sum_fitting-requires g c = let small : elements_of c.args.program.now.families ≤ ELEMENTS = (can_small _ c.requires.can).1 in omega (arith, small)

pub run_sum_in-requires-clause-can : goal.run_sum_in-requires-clause-can
run_sum_in-requires-clause-can g c = can_next _ _ c.requires.can (ran_tested _ _ _ _ (sym c.is_sum_fitting.ensures ∙ c.if-is_sum_fitting.true))

pub run_sum_in-requires-clause-few : goal.run_sum_in-requires-clause-few
run_sum_in-requires-clause-few g c =
    (sum_tiled (width_of c.args.program.now.families) (narrow c.args.program.now c.requires.can.ready.accepted) c.args.s.now (sym c.is_sum_fitting.ensures ∙ c.if-is_sum_fitting.true)).0

pub run_sum_in-requires-clause-first : goal.run_sum_in-requires-clause-first
run_sum_in-requires-clause-first g c =
    (sum_tiled (width_of c.args.program.now.families) (narrow c.args.program.now c.requires.can.ready.accepted) c.args.s.now (sym c.is_sum_fitting.ensures ∙ c.if-is_sum_fitting.true)).1

pub returns-then-is_sum_fitting : goal.returns-then-is_sum_fitting
returns-then-is_sum_fitting g c = ran_then _ _ (ran_tested _ _ _ _ (sym c.is_sum_fitting.ensures ∙ c.if-is_sum_fitting.true)) c.run_sum_in.ensures

pub returns-else-is_sum_fitting : goal.returns-else-is_sum_fitting
returns-else-is_sum_fitting g c = ran_err _ _ (ran_denied _ _ _ _ (sym c.is_sum_fitting.ensures ∙ c.if-is_sum_fitting.false))
