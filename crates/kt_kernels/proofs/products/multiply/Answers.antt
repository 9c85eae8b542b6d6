use Rattle.std.proofs.Common.{◌≡◌, ◌+◌, ◌*◌, ◌-◌, ◌<◌, ◌≤◌, length, ap, ◌∙◌, arith}
use Rattle.std.proofs.lemmas.List.FromFn.{fill_by_all, length-map-range_with_len}
use Rattle.std.proofs.lemmas.Nat.{row_fits}
use Rattle.kt_kernels.specs.Products.{element_of}
use Rattle.kt_kernels.proofs.Cells.{cell, length-row_at, row_at, row_cells}
use Rattle.kt_kernels.proofs.Stored.{stored_row}
use Rattle.kt_kernels.proofs.products.multiply.Goals as goal

pub loop-i-preserved : goal.loop-i-preserved
loop-i-preserved g c e lt =
    let plus = g.S.Semiring.plus in
    let times = g.S.Semiring.times in
    let first = g.S.Semiring.ZERO in
    let a = c.args.a.now in
    let b = c.args.b.now in
    let p = c.args.p in
    let q = c.args.q in
    let i = c.loop-i.i in
    let old = c.loop-i.out in
    let new = c.multiply_row.new.out in
    let below : i < c.args.n = c.loop-i-test.true in
    let a_room : i * p + p ≤ length a = omega (arith, row_fits i p c.args.n p below (omega arith)) in
    let out_room : i * q + q ≤ length old = omega (arith, row_fits i q c.args.n q below (omega arith)) in
    let wide : length (row_at i q old) ≡ q = length-row_at i q old out_room in
    let long : length new ≡ q = ap length c.multiply_row.ensures ∙ length-map-range_with_len (element_of plus times first (row_at i p a) b (length (row_at i q old))) 0 (length (row_at i q old)) ∙ wide in
    stored_row (cell plus times first a b p q) old new (i * q) (i * q + q - i * q) q (omega arith) out_room long c.loop-i.invariant
    (row_cells plus times first a b p q i (length (row_at i q old)) new wide a_room c.multiply_row.ensures) e (omega arith)

pub returns : goal.returns
returns g c =
    let q = c.args.q in
    let all : c.loop-i.i * q ≡ c.args.n * q = ap (λ m. m * q) (omega arith) in
    fill_by_all (cell g.S.Semiring.plus g.S.Semiring.times g.S.Semiring.ZERO c.args.a.now c.args.b.now c.args.p q) c.loop-i.out (c.args.n * q) 0 (omega arith)
    (λ e lt. c.loop-i.invariant e (omega arith))
