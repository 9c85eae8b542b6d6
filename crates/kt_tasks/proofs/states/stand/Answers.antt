use Rattle.std.proofs.Common.{arith, ◌*◌, ◌<◌, ap, ◌∙◌, sym, subst}
use Rattle.kt_words.specs.Places.{place, record_word}
use Rattle.kt_words.specs.declared.layouts.TheConstants.{RECORDS}
use Rattle.atomic_table.specs.Table.{step}
use mathlib.Core.Option.{none}
use Rattle.kt_rule.specs.Steps.{Stands}
use Rattle.kt_steps.proofs.Telling.{stands_told}
use Rattle.kt_tasks.proofs.Found.{word_found}
use Rattle.kt_tasks.proofs.states.stand.Goals as goal

pub load-word-requires : goal.load-word-requires
load-word-requires c = let l = c.requires.live in let wide = c.args.t.now.wide in let inside = c.field.ensures.inside in (
  c.requires.seat,
  omega arith,
  stands_told c.args.t.now.table.shared.key.items c.args.t.now.table.shared.table_id.slots c.args.s.now.token.id c.args.s.now.token.me
      l.setup l.told l.live c.args.at _
      (subst (λ z. c.args.at < RECORDS * z.workers) (sym l.layout) c.requires.inside)
      (c.field.ensures.value ∙ ap (λ z. place z (record_word c.args.at 0)) (sym l.layout)),
)

looked : (c : goal.After-s-1) → Stands c.args.at
    (step c.args.t.now.table.shared.table_id.slots c.field.result 0 0 none) c.args.s.now.token.me.0 c.load-word.result
    c.load-word.new.seat.me.0
looked c = let l = c.requires.live in c.load-word.ensures.2.0 l.setup l.told c.args.at
    (subst (λ z. c.args.at < RECORDS * z.workers) (sym l.layout) c.requires.inside)
    (c.field.ensures.value ∙ ap (λ z. place z (record_word c.args.at 0)) (sym l.layout))

pub state_in-requires : goal.state_in-requires
state_in-requires c = record { packed = word_found c.load-word.result (looked c).0 }

pub returns-clause-looked : goal.returns-clause-looked
returns-clause-looked c = let l = c.requires.live in
    (c.load-word.ensures.2.0 l.setup l.told c.args.at (subst (λ z. c.args.at < RECORDS * z.workers) (sym l.layout) c.requires.inside)
    (c.field.ensures.value ∙ ap (λ z. place z (record_word c.args.at 0)) (sym l.layout))).1
