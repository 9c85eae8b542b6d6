use Rattle.std.proofs.Common.{arith, ◌∙◌, ◌<◌, ap, sym, subst, refl}
use Rattle.kt_words.specs.Places.{place, worker_word, interval}
use Rattle.kt_rule.specs.declared.views.View.{View}
use Rattle.kt_loops.proofs.IntervalTelling.{finds_told, chunk_told}
use Rattle.kt_loops.proofs.ChunkAnswers.{some_size, found_none, found_some, takes_some, leaves, left_word, chunk_got, chunk_moved}
use Rattle.kt_loops.proofs.pieces.chunk.Goals as goal

pub load-word-requires : goal.load-word-requires
load-word-requires c = let l = c.requires.live in let wide = c.args.t.now.wide in let inside = c.interval-place.ensures.inside in (
  c.requires.seat,
  omega (arith, wide, inside),
  finds_told c.args.t.now.table.shared.key.items c.args.t.now.table.shared.table_id.slots c.args.s.now.token.id c.args.s.now.token.me
      l.setup l.told l.live _ (c.interval-place.ensures.value ∙ (λ i. place (sym l.layout i) (worker_word (l.own i) interval))),
)

pub returns-in_default-clause-taken : goal.returns-in_default-clause-taken
returns-in_default-clause-taken c = let p = c.pair_in-interval.ensures.pair in
    found_none _ _ _ c.pair_in-interval.result p.0 p.1 c.load-word.ensures.2.0 (c.in_default.ensures.empty.0 refl)

pub compare_exchange-found-requires : goal.compare_exchange-found-requires
compare_exchange-found-requires c = let l = c.requires.live in let wide = c.args.t.now.wide in let inside = c.interval-place.ensures.inside in
    let x = c.pair_in-interval.result in let p = c.pair_in-interval.ensures.pair in let is = c.in-Some.ensures.taken in
    let long = some_size x c.in-Some.ensures.empty.1 in
    let same = found_some _ _ _ x p.0 p.1 c.load-word.ensures.2.0 long in (
      c.load-word.ensures.0 ∙ c.requires.seat,
      omega (arith, wide, inside),
      chunk_told c.args.t.now.table.shared.key.items c.args.t.now.table.shared.table_id.slots c.load-word.new.seat.id c.load-word.new.seat.me
          l.setup (ap (λ (z : View). z.setup) same ∙ l.told) (subst (λ (z : View). 0 < z.parts) (sym same) l.live) _ _ _ x.low c.in-Some.cut.left.low x.high
          (c.interval-place.ensures.value ∙ (λ i. place (sym l.layout i)
          (worker_word ((l.own ∙ ap (λ (z : View). z.worker) (sym same)) i) interval)))
          (p.0, sym p.1)
          (left_word c.args.s.now.token.me.0 c.load-word.new.seat.me.0 c.load-word.new.seat.me.0 c.args.grain x c.in-Some.cut is long c.requires.some p.0 _
          c.pack_pair-left.ensures)
          (takes_some c.args.s.now.token.me.0 c.load-word.new.seat.me.0 c.load-word.new.seat.me.0 c.args.grain x c.in-Some.cut is long c.requires.some p.0)
          (leaves c.args.s.now.token.me.0 c.load-word.new.seat.me.0 c.load-word.new.seat.me.0 c.args.grain x c.in-Some.cut is long c.requires.some p.0),
    )

pub returns-then-found-word-clause-taken : goal.returns-then-found-word-clause-taken
returns-then-found-word-clause-taken c =
    let x = c.pair_in-interval.result in let p = c.pair_in-interval.ensures.pair in let is = c.in-Some.ensures.taken in
    let long = some_size x c.in-Some.ensures.empty.1 in
    let same = found_some _ _ _ x p.0 p.1 c.load-word.ensures.2.0 long in
    chunk_got c.args.s.now.token.me.0 c.load-word.new.seat.me.0 c.compare_exchange-found.new.seat.me.0 c.args.grain x c.in-Some.cut is long c.requires.some p.0
    same c.compare_exchange-found.result c.load-word.result c.pack_pair-left.result p.1 c.pack_pair-left.ensures c.compare_exchange-found.ensures.2.0
    c.if-found-word.true

pub returns-else-found-word-clause-taken : goal.returns-else-found-word-clause-taken
returns-else-found-word-clause-taken c =
    let x = c.pair_in-interval.result in let p = c.pair_in-interval.ensures.pair in let is = c.in-Some.ensures.taken in
    let long = some_size x c.in-Some.ensures.empty.1 in
    let same = found_some _ _ _ x p.0 p.1 c.load-word.ensures.2.0 long in
    chunk_moved c.args.s.now.token.me.0 c.load-word.new.seat.me.0 c.compare_exchange-found.new.seat.me.0 c.args.grain x c.in-Some.cut is long c.requires.some p.0
    same c.compare_exchange-found.result c.load-word.result c.pack_pair-left.result p.1 c.pack_pair-left.ensures c.compare_exchange-found.ensures.2.0
    c.if-found-word.false
