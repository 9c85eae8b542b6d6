use Rattle.std.proofs.Common.{arith, ◌∙◌, sym}
use Rattle.kt_words.specs.Places.{place, worker_word, post}
use Rattle.kt_words.specs.Words.{packed_post}
use Rattle.kt_words.specs.declared.posts.Post.TheVariants as P
use Rattle.kt_posts.proofs.Telling.{gives_told}
use Rattle.kt_posts.proofs.leaders.answer_task.Goals as goal

pub store-requires : goal.store-requires
store-requires c = let l = c.requires.live in let q = c.requires.promised in let wide = c.args.t.now.wide in
    let inside = c.post.ensures.inside in (
      c.requires.seat,
      omega arith,
      gives_told c.args.t.now.table.shared.key.items c.args.t.now.table.shared.table_id.slots c.args.s.now.token.id c.args.s.now.token.me
          l.setup l.told l.live c.args.thief q.0 _ _ c.requires.held q.1 q.2
          (c.post.ensures.value ∙ (λ i. place (sym l.layout i) (worker_word c.args.thief post)))
          (c.pack_post-new.ensures ∙ (λ i. packed_post (P.Task (sym q.3 i)))),
    )
