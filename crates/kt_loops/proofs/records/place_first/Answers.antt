use Rattle.std.proofs.Common.{arith, ◌∙◌, sym}
use Rattle.kt_words.specs.Places.{place, record_word}
use Rattle.kt_words.specs.Words.{packed_pair}
use Rattle.kt_loops.proofs.BeginTelling.{places_told}
use Rattle.kt_loops.proofs.records.place_first.Goals as goal

pub store-requires : goal.store-requires
store-requires c = let l = c.requires.live in let q = c.requires.may in let wide = c.args.t.now.wide in let inside = c.field.ensures.inside in (
  c.requires.seat,
  omega arith,
  places_told c.args.t.now.table.shared.key.items c.args.t.now.table.shared.table_id.slots c.args.s.now.token.id c.args.s.now.token.me
      l.setup l.told l.live q.head q.rest q.runs q.plain c.args.first _ _ q.drawn
      (c.field.ensures.value ∙ (λ i. place (sym l.layout i) (record_word (sym q.lies i) 3)))
      (c.pack_pair-word.ensures ∙ (λ i. packed_pair (record { low = sym q.long i; high = c.args.first }))),
)
