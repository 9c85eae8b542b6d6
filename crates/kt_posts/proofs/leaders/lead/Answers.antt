use Rattle.std.proofs.Common.{arith, ◌<◌, ◌∙◌, sym, subst, refl}
use Rattle.kt_words.specs.Places.{place, worker_word, request}
use Rattle.kt_posts.proofs.Telling.{leads_told}
use Rattle.kt_posts.proofs.leaders.lead.Goals as goal

pub compare_exchange-found-requires : goal.compare_exchange-found-requires
compare_exchange-found-requires c = let l = c.requires.live in let wide = c.args.t.now.wide in let inside = c.request.ensures.inside in (
  c.requires.seat,
  omega arith,
  leads_told c.args.t.now.table.shared.key.items c.args.t.now.table.shared.table_id.slots c.args.s.now.token.id c.args.s.now.token.me
      l.setup l.told l.live c.args.victim _ _ _ c.requires.leads_none
      (subst (λ z. c.args.victim < z.workers) (sym l.layout) c.requires.inside)
      (c.request.ensures.value ∙ (λ i. place (sym l.layout i) (worker_word c.args.victim request))) refl (let own = l.own in omega arith),
)

pub overflow_cast-result : goal.overflow_cast-result
overflow_cast-result c = let l = c.requires.live in
    let told = c.compare_exchange-found.ensures.2.0 l.setup l.told c.args.victim (
      subst (λ z. c.args.victim < z.workers) (sym l.layout) c.requires.inside,
      c.request.ensures.value ∙ (λ i. place (sym l.layout i) (worker_word c.args.victim request)),
    ) in
    let few = told.0 in let crew = told.1 in omega arith
