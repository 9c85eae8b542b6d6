use Rattle.std.proofs.Common.{arith, inr, ◌+◌, suc, ℕ, ap, ◌∙◌, sym}
use Rattle.kt_words.specs.Places.{place, worker_word, interval}
use Rattle.kt_words.specs.Words.{packed_pair}
use Rattle.kt_rule.specs.Records.{positions_at, stop_at}
use Rattle.kt_rule.specs.declared.views.View.{View}
use Rattle.kt_steps.proofs.Asides.{stores_stop}
use Rattle.kt_loops.specs.Hands.{places_first, homes_at}
use Rattle.kt_loops.proofs.BeginTelling.{draws_told, begins_told}
use Rattle.kt_loops.proofs.BeginAnswers.{drawn_over, drawn_within, one_layout}
use Rattle.kt_loops.proofs.loops.begin_loop.Goals as goal

pub fetch_add-drawn-requires : goal.fetch_add-drawn-requires
fetch_add-drawn-requires c = let l = c.requires.live in let q = c.requires.may in let wide = c.args.t.now.wide in
    let inside = c.positions_drawn-place.ensures.inside in let same = c.extent-length.ensures.same in let some_part = l.live in
    let parts = ap (λ (v : View). v.parts) same in
    let layout = one_layout c.args.t.now.layout c.args.s.now.worker c.args.at c.args.s.now.token.me.0 l q in (
      c.extent-length.ensures.seat.0 ∙ c.requires.seat,
      omega arith,
      draws_told c.args.t.now.table.shared.key.items c.args.t.now.table.shared.table_id.slots c.extent-length.new.s.token.id c.extent-length.new.s.token.me
          q.setup (ap (λ (v : View). v.setup) same ∙ q.told) (omega (arith, some_part, parts)) q.head q.rest
          (ap (λ (v : View). v.tasks.running) same ∙ q.runs) q.plain q.zeroed _ _
          (ap (λ (v : View). v.loops.over) same ∙ q.within_positions) (ap (λ (v : View). v.loops.pending) same ∙ q.none_pending)
          (c.positions_drawn-place.ensures.value ∙ ap (λ z. place z positions_at) (sym layout))
          (c.from.ensures ∙ c.extent-length.ensures.extent.runs q.head q.rest q.runs q.lies),
    )

pub store-requires : goal.store-requires
store-requires c = let l = c.requires.live in let q = c.requires.may in let wide = c.args.t.now.wide in let inside = c.stop.ensures.inside in
    let same = c.extent-length.ensures.same in let some_part = l.live in let parts = ap (λ (v : View). v.parts) same in
    let layout = one_layout c.args.t.now.layout c.args.s.now.worker c.args.at c.args.s.now.token.me.0 l q in
    let told = c.fetch_add-drawn.ensures.2.0 q.head q.rest (ap (λ (v : View). v.tasks.running) same ∙ q.runs)
    (c.from.ensures ∙ c.extent-length.ensures.extent.runs q.head q.rest q.runs q.lies) in
    let a = c.from.ensures in let b = c.from-2.ensures in let d = c.from-3.ensures in let test = c.if-count-from.true in
    let drew = drawn_over c.extent-length.new.s.token.me.0 c.fetch_add-drawn.new.seat.me.0 q.head c.fetch_add-drawn.result c.from.result
    (omega (arith, a, b, d, test)) told.1 in
    let over = ap (λ (v : View). v.loops.over) drew in let parts_now = ap (λ (v : View). v.parts) drew in (
      c.fetch_add-drawn.ensures.0 ∙ (c.extent-length.ensures.seat.0 ∙ c.requires.seat),
      omega arith,
      stores_stop c.args.t.now.table.shared.key.items c.args.t.now.table.shared.table_id.slots c.fetch_add-drawn.new.seat.id
          c.fetch_add-drawn.new.seat.me q.setup _ (ap (λ (v : View). v.setup) drew ∙ (ap (λ (v : View). v.setup) same ∙ q.told))
          (omega (arith, some_part, parts, parts_now)) (inr (omega (arith, over)))
          (c.stop.ensures.value ∙ ap (λ z. place z stop_at) (sym layout)),
    )

pub place_first-requires-clause-may : goal.place_first-requires-clause-may
place_first-requires-clause-may c = let q = c.requires.may in let same = c.extent-length.ensures.same in
    let long = c.extent-length.ensures.extent.runs q.head q.rest q.runs q.lies in
    let told = c.fetch_add-drawn.ensures.2.0 q.head q.rest (ap (λ (v : View). v.tasks.running) same ∙ q.runs) (c.from.ensures ∙ long) in
    let a = c.from.ensures in let b = c.from-2.ensures in let d = c.from-3.ensures in let test = c.if-count-from.false in
    let drew = drawn_within c.extent-length.new.s.token.me.0 c.fetch_add-drawn.new.seat.me.0 q.head c.fetch_add-drawn.result c.from.result
    (omega (arith, a, b, d, test)) told.1 in record {
      head = q.head;
      rest = q.rest;
      runs = ap (λ (v : View). v.tasks.running) drew ∙ (ap (λ (v : View). v.tasks.running) same ∙ q.runs);
      lies = q.lies;
      long = sym long;
      drawn = ap (λ (v : View). v.loops.pending) drew;
      plain = q.plain;
    }

pub store-requires-2 : goal.store-requires-2
store-requires-2 c = let l = c.requires.live in let q = c.requires.may in let wide = c.args.t.now.wide in let inside = c.interval.ensures.inside in
    let same = c.extent-length.ensures.same in let some_part = l.live in let parts = ap (λ (v : View). v.parts) same in
    let layout = one_layout c.args.t.now.layout c.args.s.now.worker c.args.at c.args.s.now.token.me.0 l q in
    let long = c.extent-length.ensures.extent.runs q.head q.rest q.runs q.lies in
    let told = c.fetch_add-drawn.ensures.2.0 q.head q.rest (ap (λ (v : View). v.tasks.running) same ∙ q.runs) (c.from.ensures ∙ long) in
    let a = c.from.ensures in let b = c.from-2.ensures in let d = c.from-3.ensures in let test = c.if-count-from.false in
    let drew = drawn_within c.extent-length.new.s.token.me.0 c.fetch_add-drawn.new.seat.me.0 q.head c.fetch_add-drawn.result c.from.result
    (omega (arith, a, b, d, test)) told.1 in
    let is = c.set_home.ensures.set ∙ ap (λ (v : View). homes_at v c.args.at) (c.place_first.ensures.placed ∙ ap places_first drew) in
    let parts_now = ap (λ (v : View). v.parts) is in
    let worker = c.set_home.ensures.seat.2 ∙ (c.place_first.ensures.seat.2 ∙ (c.extent-length.ensures.seat.2 ∙ (l.own
    ∙ sym (ap (λ (v : View). v.worker) is ∙ ap (λ (v : View). v.worker) same)))) in (
      c.set_home.ensures.seat.0 ∙ (c.place_first.ensures.seat.0 ∙ (c.fetch_add-drawn.ensures.0 ∙ (c.extent-length.ensures.seat.0 ∙ c.requires.seat))),
      omega arith,
      begins_told c.args.t.now.table.shared.key.items c.args.t.now.table.shared.table_id.slots c.set_home.new.s.token.id c.set_home.new.s.token.me
          q.setup (ap (λ (v : View). v.setup) is ∙ (ap (λ (v : View). v.setup) same ∙ q.told)) (omega (arith, some_part, parts, parts_now)) q.head q.rest
          (ap (λ (v : View). v.tasks.running) is ∙ (ap (λ (v : View). v.tasks.running) same ∙ q.runs)) q.plain q.zeroed c.fetch_add-drawn.result _ _
          (ap (λ (v : View). v.loops.pending) is) (ap (λ (v : View). v.loops.placed) is)
          (ap (λ (v : View). v.loops.free) is ∙ (ap (λ (v : View). v.loops.free) same ∙ q.free))
          (ap (λ (v : View). v.loops.home) is ∙ ap suc (sym q.lies)) (ap (λ (v : View). v.loops.over) is)
          (record { low_fits = omega (arith, a, b, d, test); high_fits = omega (arith, a, b, d, test, long) })
          (c.interval.ensures.value ∙ (λ i. place (sym layout i) (worker_word (worker i) interval)))
          (c.pack_pair-word.ensures ∙ ap (λ (k : ℕ). packed_pair (record { low = c.fetch_add-drawn.result; high = c.fetch_add-drawn.result + k })) (b ∙ long)),
    )
