use Rattle.std.proofs.Common.{arith, ◌∙◌, sym, subst}
use Rattle.kt_words.specs.Places.{place, worker_word, post}
use Rattle.kt_posts.specs.Told.{Took}
use Rattle.kt_posts.proofs.PostWords.{post_same}
use Rattle.kt_posts.proofs.Telling.{takes_told}
use Rattle.kt_posts.proofs.thieves.take.Goals as goal

pub compare_exchange-requires : goal.compare_exchange-requires
compare_exchange-requires c = let l = c.requires.live in let q = c.requires.saw in let wide = c.args.t.now.wide in
    let inside = c.post.ensures.inside in (
      c.requires.seat,
      omega arith,
      takes_told c.args.t.now.table.shared.key.items c.args.t.now.table.shared.table_id.slots c.args.s.now.token.id c.args.s.now.token.me
          l.setup l.told l.live _ _ _ q.1 (c.post.ensures.value ∙ (λ i. place (sym l.layout i) (worker_word (l.own i) post)))
          (c.pack_post-answer.ensures ∙ sym q.2) c.pack_post-idle.ensures,
    )

pub returns-clause-took : goal.returns-clause-took
returns-clause-took c = let h = c.compare_exchange.ensures.2.0 in
    subst (λ o. Took o c.args.s.now.token.me.0 c.compare_exchange.new.seat.me.0)
    (post_same h.1.0 c.args.seen (h.1.3 ∙ (h.0 ∙ c.pack_post-answer.ensures))) h.1.4
