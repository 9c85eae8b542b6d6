use Rattle.std.proofs.Common.{arith, refl, sym, ap, ◌∙◌}
use Rattle.kt_words.specs.Places.{place, record_word}
use Rattle.kt_words.specs.declared.states.StateWord.{StateWord}
use Rattle.kt_tasks.proofs.Climbing.{looks_up}
use Rattle.kt_tasks.proofs.Found.{state_found}
use Rattle.kt_tasks.proofs.paths.fork_of.Goals as goal

pub load-word-requires : goal.load-word-requires
load-word-requires c = let l = c.requires.live in let wide = c.args.t.now.wide in let inside = c.field.ensures.inside in (
  c.requires.seat,
  omega arith,
  looks_up c.args.t.now.table.shared.key.items c.args.t.now.table.shared.table_id.slots c.args.s.now.token.id c.args.s.now.token.me
      l.setup l.told l.live _,
)

pub state_in-requires : goal.state_in-requires
state_in-requires c = let l = c.requires.live in let q = c.requires.reached in
    let h = c.load-word.ensures.2.0.0 l.setup l.told q.0 q.1.0
    (c.field.ensures.value ∙ (λ i. place (sym l.layout i) (record_word (sym q.1.1 i) 0))) in
    record { packed = (record { frame = q.0.berth.frame; fork = q.0.berth.fork; stand = h.0.0 }, h.0.1, h.0.3) }

pub returns-clause-seat : goal.returns-clause-seat
returns-clause-seat c = (c.load-word.ensures.0, (λ i. (c.load-word.ensures.2.0.1 i, c.load-word.ensures.2.1 i)), refl, refl)

pub returns-clause-fork : goal.returns-clause-fork
returns-clause-fork c = let l = c.requires.live in λ m there.
    ap (λ (z : StateWord). z.fork) (state_found c.state_in.result m.berth c.load-word.result c.state_in.ensures.state
    (c.load-word.ensures.2.0.0 l.setup l.told m there.0
    (c.field.ensures.value ∙ (λ i. place (sym l.layout i) (record_word (sym there.1 i) 0)))).0).1

pub returns-clause-deep : goal.returns-clause-deep
returns-clause-deep c = let l = c.requires.live in λ m there. (c.load-word.ensures.2.0.0 l.setup l.told m there.0
    (c.field.ensures.value ∙ (λ i. place (sym l.layout i) (record_word (sym there.1 i) 0)))).1
