use Rattle.std.proofs.Common.{arith, ◌∙◌, sym, refl}
use Rattle.kt_words.specs.Places.{place, worker_word, request}
use Rattle.kt_posts.proofs.Telling.{releases_told}
use Rattle.kt_posts.proofs.leaders.release.Goals as goal

pub store-requires : goal.store-requires
store-requires c = let l = c.requires.live in let q = c.requires.leads in let wide = c.args.t.now.wide in
    let inside = c.request.ensures.inside in (
      c.requires.seat,
      omega arith,
      releases_told c.args.t.now.table.shared.key.items c.args.t.now.table.shared.table_id.slots c.args.s.now.token.id
          c.args.s.now.token.me l.setup l.told l.live _ _ q.0 c.requires.answered
          (c.request.ensures.value ∙ (λ i. place (sym l.layout i) (worker_word (sym q.1 i) request))) refl,
    )
