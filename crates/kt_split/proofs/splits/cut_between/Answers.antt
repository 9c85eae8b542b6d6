use Rattle.std.proofs.Common.{◌≤◌, ◌<◌, ◌+◌, ◌-◌, ℕ, arith}
use Rattle.kt_split.specs.Splits.{IsKept}
use Rattle.kt_split.proofs.DealtLemmas.{parts_sum}
use Rattle.kt_split.proofs.CutLemmas.{kept_between, dealt_is_cut}
use Rattle.kt_split.proofs.splits.cut_between.Goals as goal

-- the victim keeps some of the positions, and not all
keeps : (low high parts kept : ℕ) → low + 2 ≤ high → 1 ≤ parts → IsKept (high - low) parts kept → (1 ≤ kept) × (kept < high - low)
keeps low high parts kept long some is = kept_between (high - low) parts kept some (omega (arith, long)) is

pub overflow_sub-rest : goal.overflow_sub-rest
overflow_sub-rest c =
    let between = keeps c.args.low c.args.high c.args.parts c.kept-kept.result c.requires.long c.requires.some c.kept-kept.ensures in
    omega (arith, between.1)

pub overflow_add-middle : goal.overflow_add-middle
overflow_add-middle c =
    let between = keeps c.args.low c.args.high c.args.parts c.kept-kept.result c.requires.long c.requires.some c.kept-kept.ensures in
    omega (arith, between.1, c.ranges.high.fits)

pub nonzero_div-rest : goal.nonzero_div-rest
nonzero_div-rest c =
    let between = keeps c.args.low c.args.high c.args.parts c.kept-kept.result c.requires.long c.requires.some c.kept-kept.ensures in
    omega (arith, between.1, c.min-count.ensures, c.requires.some)

pub nonzero_rem-rest : goal.nonzero_rem-rest
nonzero_rem-rest c =
    let between = keeps c.args.low c.args.high c.args.parts c.kept-kept.result c.requires.long c.requires.some c.kept-kept.ensures in
    omega (arith, between.1, c.min-count.ensures, c.requires.some)

pub deal-requires-clause-fits : goal.deal-requires-clause-fits
deal-requires-clause-fits c =
    let between = keeps c.args.low c.args.high c.args.parts c.kept-kept.result c.requires.long c.requires.some c.kept-kept.ensures in
    let sum = parts_sum (c.args.low + c.kept-kept.result) (c.args.high - c.args.low - c.kept-kept.result) c.min-count.result in
    omega (arith, between.1, sum, c.ranges.high.fits)

pub returns : goal.returns
returns c = dealt_is_cut c.args.low c.args.high c.args.parts c.kept-kept.result c.min-count.result c.deal.result.items
    c.requires.long c.requires.some c.kept-kept.ensures c.min-count.ensures c.deal.ensures
