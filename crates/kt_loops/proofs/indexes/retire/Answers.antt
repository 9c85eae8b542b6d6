use Rattle.std.proofs.Common.{arith, ap, ◌∙◌, sym}
use Rattle.kt_words.specs.Places.{place, record_word}
use Rattle.kt_rule.specs.Records.{layout_of}
use Rattle.kt_steps.proofs.Telling.{the_some}
use Rattle.kt_loops.proofs.RetireTelling.{retires_told, none_over}
use Rattle.kt_loops.proofs.indexes.retire.Goals as goal

pub fetch_sub-found-requires : goal.fetch_sub-found-requires
fetch_sub-found-requires c = let l = c.requires.live in let q = c.requires.may in let wide = c.args.t.now.wide in
    let inside = c.field-place.ensures.inside in let layout = ap layout_of (the_some (sym q.over.told ∙ l.told)) ∙ l.layout in
    let from = c.from.ensures in let some_done = q.some_done in let many = q.many in (
      c.requires.seat,
      omega arith,
      retires_told c.args.t.now.table.shared.key.items c.args.t.now.table.shared.table_id.slots c.args.s.now.token.id c.args.s.now.token.me
          q.over.setup q.over.told l.live q.spot q.done q.rest q.over _ _ (omega arith) (omega arith)
          (c.field-place.ensures.value ∙ (λ i. place (sym layout i) (record_word (sym q.lies i) 4))),
    )

pub overflow_sub-result : goal.overflow_sub-result
overflow_sub-result c = let q = c.requires.may in let from = c.from.ensures in let again = c.from-2.ensures in let many = q.many in
    let told = c.fetch_sub-found.ensures.2.0 q.spot q.done q.rest q.over (omega arith) in let least = told.0 in omega arith

pub overflow_cast-result : goal.overflow_cast-result
overflow_cast-result c = let q = c.requires.may in let from = c.from.ensures in let many = q.many in
    let told = c.fetch_sub-found.ensures.2.0 q.spot q.done q.rest q.over (omega arith) in let most = told.1 in omega arith

pub returns-clause-retired : goal.returns-clause-retired
returns-clause-retired c m done rest over lies many = let from = c.from.ensures in let again = c.from-2.ensures in
    let told = c.fetch_sub-found.ensures.2.0 m done rest over (omega arith) in let least = told.0 in
    none_over _ _ c.fetch_sub-found.result c.from.result _ least (omega arith) told.2
