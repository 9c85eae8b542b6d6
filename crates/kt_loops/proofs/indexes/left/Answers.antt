use Rattle.std.proofs.Common.{arith, ◌∙◌, sym}
use Rattle.kt_words.specs.Places.{place, record_word}
use Rattle.kt_loops.proofs.RetireTelling.{left_told}
use Rattle.kt_loops.proofs.indexes.left.Goals as goal

pub load-requires : goal.load-requires
load-requires c = let l = c.requires.live in let q = c.requires.runs in let wide = c.args.t.now.wide in let inside = c.field-place.ensures.inside in (
  c.requires.seat,
  omega arith,
  left_told c.args.t.now.table.shared.key.items c.args.t.now.table.shared.table_id.slots c.args.s.now.token.id c.args.s.now.token.me
      l.setup l.told l.live q.head q.rest _ q.runs q.looping
      (c.field-place.ensures.value ∙ (λ i. place (sym l.layout i) (record_word (sym q.lies i) 4))),
)

pub overflow_cast-result : goal.overflow_cast-result
overflow_cast-result c = let q = c.requires.runs in let few = (c.load.ensures.2.0 q.head q.rest q.runs q.looping).0 in omega arith
