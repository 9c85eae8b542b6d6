use Rattle.std.proofs.Common.{arith, ◌<◌, ◌∙◌, sym, subst}
use Rattle.kt_words.specs.Places.{place, worker_word, post}
use Rattle.kt_words.specs.Words.{packed_post}
use Rattle.kt_words.specs.declared.posts.Post.TheVariants as P
use Rattle.kt_posts.proofs.Telling.{holds_told}
use Rattle.kt_posts.proofs.leaders.hold.Goals as goal

pub compare_exchange-found-requires : goal.compare_exchange-found-requires
compare_exchange-found-requires c = let l = c.requires.live in let q = c.requires.leads in let wide = c.args.t.now.wide in
    let inside = c.post.ensures.inside in (
      c.requires.seat,
      omega arith,
      holds_told c.args.t.now.table.shared.key.items c.args.t.now.table.shared.table_id.slots c.args.s.now.token.id c.args.s.now.token.me
          l.setup l.told l.live c.args.thief _ _ _ q.0 (subst (λ z. c.args.thief < z.workers) (sym l.layout) c.requires.inside)
          (c.post.ensures.value ∙ (λ i. place (sym l.layout i) (worker_word c.args.thief post)))
          (c.pack_post-old.ensures ∙ (λ i. packed_post (P.Posted (sym q.1 i))))
          (c.pack_post-new.ensures ∙ (λ i. packed_post (P.Held (sym q.1 i)))),
    )
