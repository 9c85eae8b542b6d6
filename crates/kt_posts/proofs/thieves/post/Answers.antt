use Rattle.std.proofs.Common.{arith, ◌∙◌, sym}
use Rattle.kt_words.specs.Places.{place, worker_word, post}
use Rattle.kt_posts.proofs.Telling.{posts_told}
use Rattle.kt_posts.proofs.thieves.post.Goals as goal

pub store-requires : goal.store-requires
store-requires c = let l = c.requires.live in let wide = c.args.t.now.wide in let inside = c.post.ensures.inside in (
  c.requires.seat,
  omega arith,
  posts_told c.args.t.now.table.shared.key.items c.args.t.now.table.shared.table_id.slots c.args.s.now.token.id c.args.s.now.token.me
      l.setup l.told l.live c.args.victim _ _ c.requires.idle (record { number_fits = c.ranges.victim.fits })
      (c.post.ensures.value ∙ (λ i. place (sym l.layout i) (worker_word (l.own i) post))) c.pack_post-new.ensures,
)

pub returns-clause-posted : goal.returns-clause-posted
returns-clause-posted c = c.store.ensures.2.0 c.args.victim (record { number_fits = c.ranges.victim.fits }) c.pack_post-new.ensures
