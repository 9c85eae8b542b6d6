use Rattle.std.proofs.Common.{arith, ◌≡◌, false, ◌∙◌, sym, subst}
use Rattle.kt_words.specs.Places.{place, worker_word, post}
use Rattle.kt_posts.specs.Desks.{is_answer, is_idle, sees}
use Rattle.kt_posts.proofs.PostWords.{post_same}
use Rattle.kt_posts.proofs.Telling.{peeks_told}
use Rattle.kt_posts.proofs.thieves.peek.Goals as goal

pub load-word-requires : goal.load-word-requires
load-word-requires c = let l = c.requires.live in let wide = c.args.t.now.wide in let inside = c.post.ensures.inside in (
  c.requires.seat,
  omega arith,
  peeks_told c.args.t.now.table.shared.key.items c.args.t.now.table.shared.table_id.slots c.args.s.now.token.id c.args.s.now.token.me
      l.setup l.told l.live _ c.requires.busy (c.post.ensures.value ∙ (λ i. place (sym l.layout i) (worker_word (l.own i) post))),
)

pub returns-clause-found : goal.returns-clause-found
returns-clause-found c = let h = c.load-word.ensures.2.0 in let r = c.post_in.ensures.post in
    (r.0, subst (λ o. is_idle o ≡ false) (post_same h.0 c.post_in.result (sym h.2 ∙ sym r.1)) h.3)

pub returns-clause-asked : goal.returns-clause-asked
returns-clause-asked c = let h = c.load-word.ensures.2.0 in let r = c.post_in.ensures.post in
    λ victim e. h.4 victim (post_same h.0 c.post_in.result (sym h.2 ∙ sym r.1) ∙ e)

pub returns-clause-seen : goal.returns-clause-seen
returns-clause-seen c = let h = c.load-word.ensures.2.0 in let r = c.post_in.ensures.post in
    let same = post_same h.0 c.post_in.result (sym h.2 ∙ sym r.1) in
    h.5 ∙ (λ i. sees c.args.s.now.token.me.0 (sym r.1 i) (is_answer (same i)))
