use Rattle.std.proofs.Common.{arith, ◌∙◌, sym, subst}
use Rattle.kt_words.specs.Places.{place, worker_word, post}
use Rattle.kt_words.specs.Words.{packed_post, packed_pair}
use Rattle.kt_words.specs.declared.pairs.Pair.{Pair}
use Rattle.kt_words.specs.declared.posts.Post.TheVariants as P
use Rattle.kt_rule.specs.Lists.{In}
use Rattle.kt_posts.proofs.Telling.{deals_told}
use Rattle.kt_posts.proofs.leaders.deal.Goals as goal

pub store-requires : goal.store-requires
store-requires c = let l = c.requires.live in let q = c.requires.piece in let wide = c.args.t.now.wide in
    let inside = c.post.ensures.inside in let at_is = q.2 in (
      c.requires.seat,
      omega arith,
      deals_told c.args.t.now.table.shared.key.items c.args.t.now.table.shared.table_id.slots c.args.s.now.token.id c.args.s.now.token.me
          l.setup l.told l.live c.args.thief q.0 _ _ q.1
          (subst (λ (z : Pair). In (record { thief = c.args.thief; piece = packed_pair z }) c.args.s.now.token.me.0.desk.wrote) (sym q.3)
          c.requires.written)
          (record { number_fits = omega arith })
          (c.post.ensures.value ∙ (λ i. place (sym l.layout i) (worker_word c.args.thief post)))
          (c.pack_post-new.ensures ∙ (λ i. packed_post (P.Piece (sym q.2 i)))),
    )
