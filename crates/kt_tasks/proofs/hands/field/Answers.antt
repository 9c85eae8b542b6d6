use Rattle.std.proofs.Common.{arith, ◌*◌, ◌<◌, ◌∙◌, sym, subst, refl}
use Rattle.kt_words.specs.Places.{place, record_word}
use Rattle.kt_words.specs.declared.layouts.TheConstants.{RECORDS}
use Rattle.kt_tasks.proofs.Telling.{looks_held}
use Rattle.kt_tasks.proofs.hands.field.Goals as goal

pub load-requires : goal.load-requires
load-requires c = let l = c.requires.live in let wide = c.args.t.now.wide in let inside = c.field.ensures.inside in (
  c.requires.seat,
  omega arith,
  looks_held c.args.t.now.table.shared.key.items c.args.t.now.table.shared.table_id.slots c.args.s.now.token.id c.args.s.now.token.me
      l.setup l.told l.live _,
)

pub returns-clause-seat : goal.returns-clause-seat
returns-clause-seat c = (c.load.ensures.0, (λ i. (c.load.ensures.2.0.1 i, c.load.ensures.2.1 i)), refl, refl)

pub returns-clause-field : goal.returns-clause-field
returns-clause-field c = let l = c.requires.live in
    c.load.ensures.2.0.0 l.setup l.told c.args.at c.args.field
    (subst (λ z. c.args.at < RECORDS * z.workers) (sym l.layout) c.requires.inside.0) c.requires.inside.1
    (c.field.ensures.value ∙ (λ i. place (sym l.layout i) (record_word c.args.at c.args.field)))
