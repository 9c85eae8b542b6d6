use Rattle.std.proofs.Common.{arith, ◌*◌, ◌<◌, ap, ◌∙◌, sym, subst}
use Rattle.kt_words.specs.Places.{place, record_word}
use Rattle.kt_words.specs.declared.layouts.TheConstants.{RECORDS}
use Rattle.kt_words.specs.declared.pairs.Pair.{Pair}
use Rattle.kt_loops.specs.Told.{IsExtent}
use Rattle.kt_loops.proofs.TurningWords.{pair_same}
use Rattle.kt_loops.proofs.BeginTelling.{finds_first_told}
use Rattle.kt_loops.proofs.records.extent.Goals as goal

pub load-word-requires : goal.load-word-requires
load-word-requires c = let l = c.requires.live in let wide = c.args.t.now.wide in let inside = c.field.ensures.inside in (
  c.requires.seat,
  omega arith,
  finds_first_told c.args.t.now.table.shared.key.items c.args.t.now.table.shared.table_id.slots c.args.s.now.token.id c.args.s.now.token.me
      l.setup l.told l.live _,
)

pub returns-clause-extent : goal.returns-clause-extent
returns-clause-extent c = let l = c.requires.live in
    let h = c.load-word.ensures.2.0.1 c.args.at l.setup l.told (subst (λ z. c.args.at < RECORDS * z.workers) (sym l.layout) c.requires.inside)
    (c.field.ensures.value ∙ ap (λ z. place z (record_word c.args.at 3)) (sym l.layout)) in
    let same = pair_same (record { low = h.0; high = h.1 }) c.pair_in.result h.2.0 c.pair_in.ensures.pair.0 (sym h.2.1 ∙ sym c.pair_in.ensures.pair.1) in
    subst (λ (z : Pair). IsExtent c.args.s.now.token.me.0 c.args.at z.low z.high) same h.3
