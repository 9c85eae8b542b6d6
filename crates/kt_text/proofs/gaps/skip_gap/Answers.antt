use Rattle.std.proofs.Common.{◌∙◌, sym, arith}
use Rattle.kt_text.proofs.GapSteps.{comment_moves, is_passed-more, is_passed-small}
use Rattle.kt_text.proofs.gaps.skip_gap.Goals as goal

pub gap-preserved-then-byte-eq35 : goal.gap-preserved-then-byte-eq35
gap-preserved-then-byte-eq35 c =
    let moves = comment_moves c.args.text.now c.gap.at c.line_length-at.result c.gap.invariant.inside (sym c.byte_at-byte.ensures ∙ c.if-byte-eq35.true) c.line_length-at.ensures.value in
    is_passed-more c.args.text.now c.args.from c.gap.at c.gap.since c.line_length-at.result c.gap.place c.gap.invariant moves

pub moved-requires : goal.moved-requires
moved-requires c =
    let small = is_passed-small c.args.text.now c.args.from c.gap.at c.gap.since c.gap.place c.gap.invariant in
    omega (arith, small, c.gap.invariant.inside, c.requires.short)
