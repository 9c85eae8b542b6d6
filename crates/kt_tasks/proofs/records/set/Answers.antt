use Rattle.std.proofs.Common.{arith, ◌∙◌, sym, subst}
use Rattle.kt_words.specs.Places.{place, record_word}
use Rattle.kt_rule.specs.Steps.{MaySet}
use Rattle.kt_tasks.proofs.Telling.{sets_field}
use Rattle.kt_tasks.proofs.records.set.Goals as goal

pub store-requires : goal.store-requires
store-requires c = let q = c.requires.next in let l = q.live in let wide = c.args.t.now.wide in
    let inside = c.field-place.ensures.inside in (
      c.requires.seat,
      omega arith,
      sets_field c.args.t.now.table.shared.key.items c.args.t.now.table.shared.table_id.slots c.args.s.now.token.id c.args.s.now.token.me
          l.setup l.told l.live c.args.field c.args.word _ q.room c.requires.field.0 c.requires.field.1
          (subst (λ z. MaySet z c.args.field c.args.word) (sym l.layout) c.requires.field.2) c.requires.unset
          (c.field-place.ensures.value ∙ (λ i. place (sym l.layout i) (record_word (q.free i) c.args.field))),
    )

pub returns-clause-set : goal.returns-clause-set
returns-clause-set c = let q = c.requires.next in let l = q.live in
    c.store.ensures.2.0 l.setup l.told c.args.field c.requires.field.1
    (c.field-place.ensures.value ∙ (λ i. place (sym l.layout i) (record_word (q.free i) c.args.field)))
