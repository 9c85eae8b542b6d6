use Rattle.std.proofs.Common.{◌+◌, ◌*◌, ◌≤◌, length, ◌∙◌, arith}
use Rattle.std.specs.List.{range_with_len}
use Rattle.std.proofs.lemmas.Nat.{row_fits}
use Rattle.kt_kernels.proofs.Sums.{sums_all, sums_more}
use Rattle.kt_kernels.proofs.products.elements.Goals as goal

pub loop-k-preserved : goal.loop-k-preserved
loop-k-preserved g c =
    let row = c.args.row.now in
    let b = c.args.b.now in
    let width = c.args.width in
    let column = c.args.column in
    let k = c.loop-k.k in
    let room : k * width + column + 8 ≤ length b = omega (arith, row_fits k width (length row) width c.loop-k-test.true (omega arith)) in
    c.add_products-sums.ensures
    ∙ sums_more g.S.Semiring.plus g.S.Semiring.times g.S.Semiring.ZERO row b width column 8 k c.loop-k.sums room c.loop-k.invariant

pub returns : goal.returns
returns g c =
    sums_all g.S.Semiring.plus g.S.Semiring.times g.S.Semiring.ZERO c.args.row.now c.args.b.now c.args.width c.loop-k.k (range_with_len c.args.column 8) c.loop-k.sums (omega arith)
    c.loop-k.invariant
