use Rattle.std.proofs.Common.{arith, ◌<◌, ap, ◌∙◌, sym, subst}
use Rattle.kt_law.specs.declared.stands.Stand.TheVariants as S
use Rattle.kt_words.specs.Places.{place, record_word}
use Rattle.kt_rule.specs.Steps.{starts, state_word}
use Rattle.kt_steps.proofs.Telling.{shows_given}
use Rattle.kt_tasks.proofs.Telling.{starts_few}
use Rattle.kt_tasks.proofs.Found.{state_found, repacked}
use Rattle.kt_tasks.proofs.claims.start.Goals as goal

pub load-found-requires : goal.load-found-requires
load-found-requires c = let l = c.requires.live in let q = c.requires.given in let wide = c.args.t.now.wide in
    let inside = c.field-place.ensures.inside in (
      c.requires.seat,
      omega arith,
      shows_given c.args.t.now.table.shared.key.items c.args.t.now.table.shared.table_id.slots c.args.s.now.token.id c.args.s.now.token.me
          l.setup l.told l.live _ q.1 _ q.2
          (c.field-place.ensures.value ∙ (λ i. place (sym l.layout i) (record_word (sym q.3 i) 0))),
    )

pub store-requires : goal.store-requires
store-requires c = let l = c.requires.live in let q = c.requires.given in let wide = c.args.t.now.wide in
    let inside = c.field-place.ensures.inside in
    let told = c.load-found.ensures.2.0 in let same = told.1 in
    let found = state_found c.state_in-state.result q.0.berth c.load-found.result c.state_in-state.ensures.state (told.0 _ q.1 q.2) in (
      c.load-found.ensures.0 ∙ c.requires.seat,
      omega arith,
      starts_few c.args.t.now.table.shared.key.items c.args.t.now.table.shared.table_id.slots c.load-found.new.seat.id
          c.load-found.new.seat.me l.setup (ap (λ z. z.setup) same ∙ l.told)
          (subst (λ z. 0 < z.parts) (sym same) l.live) q.0 q.1 _ _
          (ap (λ z. z.tasks.given) same ∙ q.2)
          (c.field-place.ensures.value ∙ (λ i. place (sym l.layout i) (record_word (sym q.3 i) 0)))
          (repacked c.state_in-state.result q.0.berth found (S.Running c.args.s.now.worker) _ c.pack_state-new.ensures ∙
          (λ i. state_word q.0.berth (S.Running ((l.own ∙ ap (λ z. z.worker) (sym same)) i)))),
    )

pub returns-clause-started : goal.returns-clause-started
returns-clause-started c = let same = c.load-found.ensures.2.0.1 in λ m rest given. c.store.ensures.2.0.0 m rest
    (ap (λ z. z.tasks.given) same ∙ given) ∙ ap (λ z. starts z m rest) same
