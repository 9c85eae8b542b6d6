use Rattle.std.proofs.Common.{◌≤◌, ◌≡◌, true, arith, sym, ◌∙◌}
use Rattle.kt_law.specs.declared.limits.TheConstants.{ELEMENTS}
use Rattle.kt_prog.specs.Objects.{elements_of, width_of}
use Rattle.kt_body.proofs.Steps.{can_next, can_small, ran_err, ran_then}
use Rattle.kt_body.proofs.Values.{ran_denied, ran_tested}
use Rattle.kt_tiles.specs.Kernels.{fits_product}
use Rattle.kt_tiles.proofs.Kernels.{product_tiled}
use Rattle.kt_tiles.proofs.Widths.{narrow}
use Rattle.kt_tiles.proofs.products.run_product.Goals as goal

pub is_fitting-requires : goal.is_fitting-requires
is_fitting-requires g c = let small : elements_of c.args.program.now.families ≤ ELEMENTS = (can_small _ c.requires.can).1 in omega (arith, small)

pub run_tiled-requires-clause-can : goal.run_tiled-requires-clause-can
run_tiled-requires-clause-can g c = can_next _ _ c.requires.can (ran_tested _ _ _ _ (sym c.is_fitting.ensures ∙ c.if-is_fitting.true))

pub run_tiled-requires-clause-rows : goal.run_tiled-requires-clause-rows
run_tiled-requires-clause-rows g c =
    (product_tiled (width_of c.args.program.now.families) (narrow c.args.program.now c.requires.can.ready.accepted) c.args.s.now (sym c.is_fitting.ensures ∙ c.if-is_fitting.true)).rows

pub run_tiled-requires-clause-depth : goal.run_tiled-requires-clause-depth
run_tiled-requires-clause-depth g c =
    (product_tiled (width_of c.args.program.now.families) (narrow c.args.program.now c.requires.can.ready.accepted) c.args.s.now (sym c.is_fitting.ensures ∙ c.if-is_fitting.true)).depth

pub run_tiled-requires-clause-columns : goal.run_tiled-requires-clause-columns
run_tiled-requires-clause-columns g c =
    (product_tiled (width_of c.args.program.now.families) (narrow c.args.program.now c.requires.can.ready.accepted) c.args.s.now (sym c.is_fitting.ensures ∙ c.if-is_fitting.true)).columns

pub run_tiled-requires-clause-a_few : goal.run_tiled-requires-clause-a_few
run_tiled-requires-clause-a_few g c =
    (product_tiled (width_of c.args.program.now.families) (narrow c.args.program.now c.requires.can.ready.accepted) c.args.s.now (sym c.is_fitting.ensures ∙ c.if-is_fitting.true)).a_few

pub run_tiled-requires-clause-b_few : goal.run_tiled-requires-clause-b_few
run_tiled-requires-clause-b_few g c =
    (product_tiled (width_of c.args.program.now.families) (narrow c.args.program.now c.requires.can.ready.accepted) c.args.s.now (sym c.is_fitting.ensures ∙ c.if-is_fitting.true)).b_few

pub run_tiled-requires-clause-c_few : goal.run_tiled-requires-clause-c_few
run_tiled-requires-clause-c_few g c =
    (product_tiled (width_of c.args.program.now.families) (narrow c.args.program.now c.requires.can.ready.accepted) c.args.s.now (sym c.is_fitting.ensures ∙ c.if-is_fitting.true)).c_few

pub returns-then-is_fitting : goal.returns-then-is_fitting
returns-then-is_fitting g c = ran_then _ _ (ran_tested _ _ _ _ (sym c.is_fitting.ensures ∙ c.if-is_fitting.true)) c.run_tiled.ensures

pub returns-else-is_fitting : goal.returns-else-is_fitting
returns-else-is_fitting g c = ran_err _ _ (ran_denied _ _ _ _ (sym c.is_fitting.ensures ∙ c.if-is_fitting.false))
