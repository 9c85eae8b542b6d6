use Rattle.kt_print.proofs.RowTexts.{lines_more, rest_more}
use Rattle.kt_print.proofs.rows.push_family.Goals as goal

pub loop-member-preserved : goal.loop-member-preserved
loop-member-preserved c = record {
  text = lines_more c.args.family.now c.args.rows.now _ _ _ _ _ _ c.loop-member.invariant.text c.loop-member.invariant.left c.split_at.ensures.front c.in_ok-push_line.ensures;
  left = rest_more _ _ _ _ _ c.loop-member.invariant.left c.split_at.ensures.back;
}
