use Rattle.kt_prog.specs.Objects.{width_of}
use Rattle.kt_body.proofs.Steps.{still_here, still_is}
use Rattle.kt_tiles.proofs.Kernels.{body_minplus, body_mul, body_scan}
use Rattle.kt_tiles.proofs.kernel.run_numbered.Goals as goal

pub run_product-requires-clause-can : goal.run_product-requires-clause-can
run_product-requires-clause-can g c =
    let s = still_is _ _ _ (still_here _ c.requires) (body_mul (width_of c.args.program.now.families) _ _ _ c.if-kernel-eq0.true) in
    rw c.product_of-s.ensures s.can

pub run_product-requires-then-kernel-eq1-clause-can : goal.run_product-requires-then-kernel-eq1-clause-can
run_product-requires-then-kernel-eq1-clause-can g c =
    let s = still_is _ _ _ (still_here _ c.requires) (body_minplus (width_of c.args.program.now.families) _ _ _ c.if-kernel-eq1.true) in
    rw c.product_of-s-then-kernel-eq1.ensures s.can

pub returns-then-kernel-eq0 : goal.returns-then-kernel-eq0
returns-then-kernel-eq0 g c =
    let s = still_is _ _ _ (still_here _ c.requires) (body_mul (width_of c.args.program.now.families) _ _ _ c.if-kernel-eq0.true) in
    s.ends _ _ (rw c.product_of-s.ensures at c.run_product.ensures)

pub returns-then-kernel-eq1 : goal.returns-then-kernel-eq1
returns-then-kernel-eq1 g c =
    let s = still_is _ _ _ (still_here _ c.requires) (body_minplus (width_of c.args.program.now.families) _ _ _ c.if-kernel-eq1.true) in
    s.ends _ _ (rw c.product_of-s-then-kernel-eq1.ensures at c.run_product-then-kernel-eq1.ensures)

pub run_scan-requires-clause-can : goal.run_scan-requires-clause-can
run_scan-requires-clause-can g c =
    let s = still_is _ _ _ (still_here _ c.requires)
    (body_scan (width_of c.args.program.now.families) _ _ _ c.if-kernel-eq0.false c.if-kernel-eq1.false c.if-kernel-eq2.false) in
    rw c.sum_of.ensures s.can

pub returns-else-kernel-eq2 : goal.returns-else-kernel-eq2
returns-else-kernel-eq2 g c =
    let s = still_is _ _ _ (still_here _ c.requires)
    (body_scan (width_of c.args.program.now.families) _ _ _ c.if-kernel-eq0.false c.if-kernel-eq1.false c.if-kernel-eq2.false) in
    s.ends _ _ (rw c.sum_of.ensures at c.run_scan.ensures)
