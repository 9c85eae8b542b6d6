use Rattle.std.proofs.Common.{arith, ◌∙◌, sym}
use Rattle.kt_words.specs.Places.{place, worker_word, answer}
use Rattle.kt_posts.proofs.Telling.{writes_told}
use Rattle.kt_posts.proofs.leaders.write.Goals as goal

pub store-requires : goal.store-requires
store-requires c = let l = c.requires.live in let wide = c.args.t.now.wide in let inside = c.answer.ensures.inside in (
  c.requires.seat,
  omega arith,
  writes_told c.args.t.now.table.shared.key.items c.args.t.now.table.shared.table_id.slots c.args.s.now.token.id c.args.s.now.token.me
      l.setup l.told l.live c.args.thief _ _ c.requires.held
      (c.answer.ensures.value ∙ (λ i. place (sym l.layout i) (worker_word c.args.thief answer))),
)
