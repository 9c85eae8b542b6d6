use Rattle.std.proofs.Common.{◌∙◌, ap, subst, sym}
use Rattle.kt_words.specs.Words.{packed_pair}
use Rattle.kt_rule.specs.declared.views.View.{View}
use Rattle.kt_rule.specs.Lists.{In, here}
use Rattle.kt_posts.specs.Desks.{deals_one}
use Rattle.kt_posts.proofs.Without.{deals_written}
use Rattle.kt_posts.proofs.leaders.answer_piece.Goals as goal

pub deal-requires-clause-written : goal.deal-requires-clause-written
deal-requires-clause-written c = subst
    (λ (z : View). In (record { thief = c.args.thief; piece = packed_pair c.args.piece }) z.desk.wrote) (sym c.write.ensures.written) here

pub returns-clause-answered : goal.returns-clause-answered
returns-clause-answered c = c.deal.ensures.answered ∙ (ap
    (λ (z : View). deals_one z c.args.thief c.args.at c.args.piece.low) c.write.ensures.written
    ∙ deals_written c.args.s.now.token.me.0 c.args.thief (packed_pair c.args.piece) c.args.at c.args.piece.low)
