use Rattle.std.proofs.Common.{arith, ◌≡◌, ◌<◌, ℕ, false, ap, ◌∙◌, sym, subst}
use Rattle.kt_words.specs.Places.{place, worker_word, post}
use Rattle.kt_words.specs.Words.{packed_post}
use Rattle.kt_words.specs.declared.posts.Post.TheVariants as P
use Rattle.kt_rule.specs.declared.views.View.{View}
use Rattle.kt_posts.specs.Desks.{is_answer, is_idle, sees}
use Rattle.kt_posts.proofs.PostWords.{post_same}
use Rattle.kt_posts.proofs.Settling.{settled_word, withdrew_else, told_miss}
use Rattle.kt_posts.proofs.Telling.{withdraws_told}
use Rattle.kt_posts.proofs.thieves.withdraw.Goals as goal

pub returns-in_default : goal.returns-in_default
returns-in_default c =
    let h = c.settle.ensures.settled c.args.s.now.token.me.0 c.peek-found.ensures.seen in
    let a = c.settle.ensures.seat in let b = c.peek-found.ensures.seat in record {
      seat = (a.0 ∙ b.0, a.1 ∙ b.1, a.2 ∙ b.2, a.3 ∙ b.3);
      withdrew = (
        c.peek-found.result,
        c.peek-found.ensures.found.0,
        settled_word _ _ c.peek-found.result _ h,
        withdrew_else _ _ c.peek-found.result _ c.in_default.not-Posted h,
      );
    }

pub compare_exchange-word-requires : goal.compare_exchange-word-requires
compare_exchange-word-requires c = let l = c.requires.live in let wide = c.args.t.now.wide in let inside = c.post.ensures.inside in
    let seen = c.peek-found.ensures.seen in let seat = c.peek-found.ensures.seat in (
      seat.0 ∙ c.requires.seat,
      omega arith,
      withdraws_told c.args.t.now.table.shared.key.items c.args.t.now.table.shared.table_id.slots c.peek-found.new.s.token.id
          c.peek-found.new.s.token.me l.setup (ap (λ (z : View). z.setup) seen ∙ l.told)
          (subst (λ (z : View). 0 < z.parts) (sym seen) l.live) c.in-Posted.field-0 _ _ _
          (ap (λ (z : View). z.desk.free) seen ∙ c.requires.busy)
          (c.post.ensures.value ∙ (λ i. place (sym l.layout i)
          (worker_word ((seat.2 ∙ (l.own ∙ ap (λ (z : View). z.worker) (sym seen))) i) post)))
          (c.pack_post-asked.ensures ∙ ap packed_post c.in-Posted.is) c.pack_post-idle.ensures,
    )

pub settle-requires-2-clause-found : goal.settle-requires-2-clause-found
settle-requires-2-clause-found c = let r = c.post_in.ensures.post in
    let h = told_miss _ _ _ _ c.compare_exchange-word.ensures.2.0 c.if-word-asked.false in
    (r.0, subst (λ o. is_idle o ≡ false) (post_same h.0 c.post_in.result (sym h.2 ∙ sym r.1)) h.3)

pub settle-requires-2-clause-seen : goal.settle-requires-2-clause-seen
settle-requires-2-clause-seen c = let r = c.post_in.ensures.post in
    let h = told_miss _ _ _ _ c.compare_exchange-word.ensures.2.0 c.if-word-asked.false in
    let same = post_same h.0 c.post_in.result (sym h.2 ∙ sym r.1) in
    (ap (λ (z : View). z.desk.saw) h.5 ∙ ap is_answer same, ap (λ (z : View). z.desk.word) h.5 ∙ sym r.1)

pub returns-clause-withdrew : goal.returns-clause-withdrew
returns-clause-withdrew c = let r = c.post_in.ensures.post in let seen = c.peek-found.ensures.seen in
    let h = told_miss _ _ _ _ c.compare_exchange-word.ensures.2.0 c.if-word-asked.false in
    let same = post_same h.0 c.post_in.result (sym h.2 ∙ sym r.1) in
    let k = c.settle-2.ensures.settled c.args.s.now.token.me.0
    (h.5 ∙ (ap (λ (z : View). sees z c.compare_exchange-word.result (is_answer h.0)) seen
    ∙ (λ i. sees c.args.s.now.token.me.0 (sym r.1 i) (is_answer (same i))))) in (
      c.post_in.result,
      r.0,
      settled_word _ _ c.post_in.result _ k,
      withdrew_else _ _ c.post_in.result _
          (λ x e. c.if-word-asked.false (sym r.1 ∙ (ap packed_post e ∙
          (ap (λ (z : ℕ). packed_post (P.Posted z)) (h.4 x (same ∙ e) ∙ (ap (λ (z : View). z.desk.asked) seen
          ∙ sym (c.peek-found.ensures.asked c.in-Posted.field-0 c.in-Posted.is)))
          ∙ (sym (ap packed_post c.in-Posted.is) ∙ sym c.pack_post-asked.ensures)))))
          k,
    )
