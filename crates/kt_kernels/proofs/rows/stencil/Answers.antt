use Rattle.std.proofs.Common.{◌≡◌, ℕ, ◌+◌, ◌*◌, ◌<◌, length, get_or, ◌∙◌, arith}
use Rattle.std.proofs.lemmas.List.FromFn.{fill_by_all}
use Rattle.kt_kernels.proofs.Neighbours.{last_lane, weighted_at, weighted_lane}
use Rattle.kt_kernels.proofs.Stored.{stored_vector}
use Rattle.kt_kernels.proofs.rows.stencil.Goals as goal

pub loop-block-preserved : goal.loop-block-preserved
loop-block-preserved c =
    let left = c.args.left in
    let row = c.args.row.now in
    let weighted : ℕ → ℕ = weighted_at left row c.args.right in
    let at = c.loop-block.block * 8 in
    let room : at + 8 < length row = omega arith in
    let lane = weighted_lane left row c.args.right at (get_or c.loop-block.previous 7 0) room c.loop-block.invariant.before in
    let lanes : (j : ℕ) → j < 8 → get_or c.weighted.result j 0 ≡ weighted (at + j) = λ j lt. c.weighted.ensures.values j lt ∙ lane j lt in
    let stored = stored_vector weighted c.loop-block.out c.weighted.result at 8 c.weighted.ensures.lanes lanes (omega arith) c.loop-block.invariant.written in
    record {
      before = last_lane left row at ((c.loop-block.block + 1) * 8) (omega arith);
      written = λ e lt. stored e (omega arith);
    }

pub returns : goal.returns
returns c = fill_by_all (weighted_at c.args.left c.args.row.now c.args.right) c.loop-at.out (length c.args.row.now) 0 (omega arith) (λ e lt. c.loop-at.invariant e (omega arith))
