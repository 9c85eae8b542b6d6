use Rattle.std.proofs.Common.{arith, ◌≡◌, ◌-◌, ◌++◌, ◌∙◌, ap, refl, length, take, drop}
use Rattle.kt_rule.specs.Close.{keeps_most}
use Rattle.kt_steps.proofs.Seats.{splits}
use Rattle.kt_pool.proofs.Words.{total_is}
use Rattle.kt_pool.proofs.Dealing.{dealt_more, less_of, new_seat, one_more, all_new, are_seats, have_not_stepped}
use Rattle.kt_pool.proofs.crews.seats_of.Goals as goal

pub split_seat-token-requires : goal.split_seat-token-requires
split_seat-token-requires c =
    let q = c.requires.told in let i = c.loop-worker.invariant in let e = i.view q.0 q.1 in
    let parts = ap (λ z. z.parts) e in let made = ap (λ z. z.made) e in let n = i.count in
    let wide = c.args.t.now.wide in let some_words = total_is c.args.t.now.layout in (
      i.seat.0 ∙ c.requires.seat.0,
      omega arith,
      splits c.args.t.now.table.shared.key.items q.0 c.loop-worker.first.id c.loop-worker.first.me.0 (ap (λ z. z.setup) e)
          (omega (arith, c.loop-worker-test.true, q.2)) (omega arith) (omega (arith, c.loop-worker-test.true, q.2)) (ap (λ z. z.draws.over) e)
          (ap (λ z. z.loops.over) e),
    )

pub loop-worker-preserved : goal.loop-worker-preserved
loop-worker-preserved c =
    let i = c.loop-worker.invariant in let told = c.split_seat-token.ensures in let n = i.count in
    let w = c.loop-worker.worker in let old = c.loop-worker.seats.ok.0 in let now = c.push_reserved.new.self.ok.0 in
    let more = c.push_reserved.ensures.len in record {
      count = omega arith;
      room = c.push_reserved.ensures.capacity ∙ i.room;
      seat = (told.0 ∙ i.seat.0, ap (λ z. z.1) told.2 ∙ i.seat.1);
      view = λ j e. ap (λ z. z.0) told.2 ∙ (ap keeps_most (i.view j e) ∙ dealt_more j w _ (less_of c.args.first.me.0 c.requires.told.0 j c.args.workers w c.requires.told.1 e c.requires.told.2 c.loop-worker-test.true) (omega arith));
      each = λ j e l. one_more j c.args.t.now c.loop-worker.seats.items c.push_reserved.new.self.items _ c.push_reserved.ensures.items (i.each j e l)
          (new_seat j c.args.t.now _ c.loop-worker.first.me.0 w (length c.loop-worker.seats.items) l
          (told.3 ∙ (i.seat.0 ∙ c.requires.seat.0)) told.4 (i.view j e) (omega arith) refl refl);
    }

pub returns-clause-seats : goal.returns-clause-seats
returns-clause-seats c = λ j e. let q = c.requires.told in let i = c.loop-worker.invariant in
    let done : c.loop-worker.worker ≡ c.args.workers = omega (arith, c.loop-worker-test.false, c.loop-worker.auto.worker-end, q.4) in
    are_seats j c.args.t.now _ (all_new q.0 j c.args.t.now c.args.first.me.0 c.loop-worker.first.me.0 c.args.workers c.loop-worker.worker _ c.loop-worker.seats.items
    c.push_reserved-2.new.self.items c.rotate_right.new.self _ _ q.1 q.2 q.3 q.4 e i.view i.each (i.seat.0 ∙ c.requires.seat.0) i.seat.1 refl refl refl i.count done
    c.push_reserved-2.ensures.items c.push_reserved-2.new.self.ok.0
    (c.rotate_right.ensures.after ∙ ap (λ z. drop (length z - 1) z ++ take (length z - 1) z) c.as_mut_slice.ensures.value))

pub returns-clause-views : goal.returns-clause-views
returns-clause-views c = λ j e. let q = c.requires.told in let i = c.loop-worker.invariant in
    let done : c.loop-worker.worker ≡ c.args.workers = omega (arith, c.loop-worker-test.false, c.loop-worker.auto.worker-end, q.4) in
    have_not_stepped j c.args.t.now _ (all_new q.0 j c.args.t.now c.args.first.me.0 c.loop-worker.first.me.0 c.args.workers c.loop-worker.worker _ c.loop-worker.seats.items
    c.push_reserved-2.new.self.items c.rotate_right.new.self _ _ q.1 q.2 q.3 q.4 e i.view i.each (i.seat.0 ∙ c.requires.seat.0) i.seat.1 refl refl refl i.count done
    c.push_reserved-2.ensures.items c.push_reserved-2.new.self.ok.0
    (c.rotate_right.ensures.after ∙ ap (λ z. drop (length z - 1) z ++ take (length z - 1) z) c.as_mut_slice.ensures.value))
