use Rattle.std.proofs.Common.{◌≡◌, sym, ap, ◌∙◌, subst}
use Rattle.kt_words.specs.Words.{packed_pair, packed_post}
use Rattle.kt_words.specs.declared.posts.Post.{Post}
use Rattle.kt_rule.specs.declared.views.View.{View}
use Rattle.kt_posts.specs.declared.answers.Answer.TheVariants as A
use Rattle.kt_posts.specs.Answered.{Settled}
use Rattle.kt_posts.specs.Desks.{freed, gets_piece, is_answer, pair_of, sees, takes_piece}
use Rattle.kt_posts.proofs.PieceWords.{pair_same}
use Rattle.kt_posts.proofs.thieves.settle.Goals as goal

-- the piece in hand is the pair that was found
pub returns-in-Piece-clause-settled : goal.returns-in-Piece-clause-settled
returns-in-Piece-clause-settled c = let is = c.in-Piece.is in let g = c.piece-pair.ensures.got in
    let t = c.take-in-Piece.ensures.took in
    let pair = pair_same (pair_of t.0) c.piece-pair.result t.2 g.0
    (t.3 (ap (λ (z : View). z.desk.got) g.1) ∙ ap (λ (z : View). z.desk.piece) g.1) in
    λ v same. let seen : c.args.s.now.token.me.0 ≡ sees v (packed_post c.args.found) (is_answer c.args.found) = same in
    subst (λ (o : Post). Settled o v c.take-in-Piece.new.s.token.me.0 (A.Piece c.in-Piece.at c.piece-pair.result)) (sym is) (
      t.0,
      t.1,
      t.2,
      ap (A.Piece c.in-Piece.at) (sym pair),
      t.4 ∙ ap (λ (z : View). freed (takes_piece z t.0)) (g.1 ∙ (λ i. gets_piece
          ((seen ∙ (λ k. sees v (packed_post (is k)) (is_answer (is k)))) i) (packed_pair (sym pair i)))),
      (λ j told. t.5 j (ap (λ (z : View). z.setup) g.1 ∙ (ap (λ (z : View). z.setup) seen ∙ told))),
    )
