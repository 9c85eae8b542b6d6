use Rattle.std.proofs.Common.{arith, ◌<◌, ap, ◌∙◌, sym, subst}
use Rattle.kt_law.specs.declared.stands.Stand.TheVariants as S
use Rattle.kt_words.specs.Places.{place, record_word}
use Rattle.kt_rule.specs.Records.{layout_of}
use Rattle.kt_steps.proofs.Telling.{shows_running, the_some}
use Rattle.kt_loops.specs.Operations.{MayFinish, finishes}
use Rattle.kt_loops.proofs.EndTelling.{ending, finish_told}
use Rattle.kt_tasks.proofs.Found.{state_found, repacked}
use Rattle.kt_tasks.proofs.claims.finish.Goals as goal

pub load-found-requires : goal.load-found-requires
load-found-requires c = let l = c.requires.live in let q = ending c.args.s.now.token.me.0 c.args.at c.requires.ended in
    let wide = c.args.t.now.wide in let inside = c.field-place.ensures.inside in (
      c.requires.seat,
      omega arith,
      shows_running c.args.t.now.table.shared.key.items c.args.t.now.table.shared.table_id.slots c.args.s.now.token.id
          c.args.s.now.token.me l.setup l.told l.live q.head q.rest _ q.runs
          (c.field-place.ensures.value ∙ (λ i. place (sym l.layout i) (record_word (sym q.lies i) 0))),
    )

pub store-requires : goal.store-requires
store-requires c = let l = c.requires.live in let q = ending c.args.s.now.token.me.0 c.args.at c.requires.ended in
    let wide = c.args.t.now.wide in let inside = c.field-place.ensures.inside in
    let told = c.load-found.ensures.2.0 in let same = told.1 in (
      c.load-found.ensures.0 ∙ c.requires.seat,
      omega arith,
      finish_told c.args.t.now.table.shared.key.items c.args.t.now.table.shared.table_id.slots c.load-found.new.seat.id
          c.load-found.new.seat.me (subst (λ z. 0 < z.parts) (sym same) l.live) c.args.at
          (subst (λ z. MayFinish z c.args.at) (sym same) c.requires.ended) q.head q.rest _ _ (ap (λ z. z.tasks.running) same ∙ q.runs)
          (λ j setup. c.field-place.ensures.value ∙ (λ i. place
          (sym (ap layout_of (the_some (sym setup ∙ (ap (λ z. z.setup) same ∙ l.told))) ∙ l.layout) i) (record_word (sym q.lies i) 0)))
          (repacked c.state_in-state.result q.head.spot.berth
          (state_found c.state_in-state.result q.head.spot.berth c.load-found.result c.state_in-state.ensures.state
          (told.0 q.head q.rest q.runs)) S.Finished _ c.pack_state-new.ensures),
    )

pub returns-clause-finished : goal.returns-clause-finished
returns-clause-finished c = let same = c.load-found.ensures.2.0.1 in λ e rest runs. c.store.ensures.2.0 e rest
    (ap (λ z. z.tasks.running) same ∙ runs) ∙ ap (λ z. finishes z e rest) same
