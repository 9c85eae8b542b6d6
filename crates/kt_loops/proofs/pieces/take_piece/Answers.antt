use Rattle.std.proofs.Common.{arith, ◌∙◌, ◌<◌, suc, ap, sym, subst}
use Rattle.kt_words.specs.Places.{place, worker_word, interval}
use Rattle.kt_words.specs.Words.{packed_pair}
use Rattle.kt_rule.specs.declared.views.View.{View}
use Rattle.kt_rule.specs.Lists.{In}
use Rattle.kt_loops.proofs.IntervalTelling.{holds_told}
use Rattle.kt_loops.proofs.pieces.take_piece.Goals as goal

pub store-requires : goal.store-requires
store-requires c = let l = c.requires.live in let q = c.requires.may in let wide = c.args.t.now.wide in let inside = c.interval.ensures.inside in
    let homed = c.set_home.ensures.set in let seat = c.set_home.ensures.seat in (
      seat.0 ∙ c.requires.seat,
      omega (arith, wide, inside),
      holds_told c.args.t.now.table.shared.key.items c.args.t.now.table.shared.table_id.slots c.set_home.new.s.token.id c.set_home.new.s.token.me
          l.setup (ap (λ (z : View). z.setup) homed ∙ l.told) (subst (λ (z : View). 0 < z.parts) (sym homed) l.live) q.share _ _
          (subst (In q.share) (sym (ap (λ (z : View). z.loops.pieces) homed)) q.is)
          (ap suc q.lies ∙ sym (ap (λ (z : View). z.loops.home) homed)) (ap (λ (z : View). z.loops.free) homed ∙ q.free)
          (c.interval.ensures.value ∙ (λ i. place (sym l.layout i)
          (worker_word ((seat.2 ∙ (l.own ∙ ap (λ (z : View). z.worker) (sym homed))) i) interval)))
          (c.pack_pair-word.ensures ∙ (λ i. packed_pair (record { low = sym q.low i; high = sym q.high i }))),
    )
