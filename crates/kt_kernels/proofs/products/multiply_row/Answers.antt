use Rattle.std.proofs.Common.{ℕ, ◌*◌, length, arith}
use Rattle.std.proofs.lemmas.List.FromFn.{fill_by_all}
use Rattle.kt_kernels.specs.Products.{element_of}
use Rattle.kt_kernels.proofs.Stored.{stored_columns}
use Rattle.kt_kernels.proofs.products.multiply_row.Goals as goal

pub loop-block-preserved : goal.loop-block-preserved
loop-block-preserved g c j lt =
    let element : ℕ → ℕ = element_of g.S.Semiring.plus g.S.Semiring.times g.S.Semiring.ZERO c.args.row.now c.args.b.now (length c.args.out.now) in
    stored_columns element c.loop-block.out c.elements.result (c.loop-block.block * 8) 8 c.elements.ensures (omega arith) c.loop-block.invariant j (omega arith)

pub returns : goal.returns
returns g c =
    let element : ℕ → ℕ = element_of g.S.Semiring.plus g.S.Semiring.times g.S.Semiring.ZERO c.args.row.now c.args.b.now (length c.args.out.now) in
    fill_by_all element c.loop-column.out (length c.args.out.now) 0 (omega arith) (λ k lt. c.loop-column.invariant k (omega arith))
