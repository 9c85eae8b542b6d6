use Rattle.std.proofs.Common.{arith, ◌≡◌, ◌+◌, ◌<◌, ◌∙◌, ap, slice_get, vec_len}
use Rattle.std.proofs.lemmas.Bool.Decides.{nat_tests}
use Rattle.kt_steps.proofs.Seats.{joins}
use Rattle.kt_pool.proofs.Words.{total_is}
use Rattle.kt_pool.proofs.Gathering.{headed, later_made, first_left, next_seat, next_left, all_in, taken_next, all_first}
use Rattle.kt_pool.proofs.crews.gather.Goals as goal

pub loop-seats-init : goal.loop-seats-init
loop-seats-init c =
    let q = c.requires.1 in let n = q.count in let s = q.some in
    let e = headed c.args.seats.items c.remove-first.new.self.items c.remove-first.result (omega arith) c.remove-first.ensures.value c.remove-first.ensures.items in
    let one = (first_left c.requires.0 c.args.t.now c.args.seats.items c.remove-first.new.self.items c.remove-first.result e q) in
    let seat = (q.each 0 c.remove-first.result (ap (λ z. slice_get z 0) e)) in record {
      joined = all_first c.args.seats.items c.remove-first.new.self.items c.remove-first.result e;
      seat = (seat.table, seat.slots);
      left = λ j all. first_left j c.args.t.now c.args.seats.items c.remove-first.new.self.items c.remove-first.result e all;
    }

pub join_seat-requires : goal.join_seat-requires
join_seat-requires c =
    let q = c.requires in let i = c.loop-seats.invariant in
    let some : 0 < vec_len c.loop-seats.seats = grind (arith, nat_tests, c.is_empty.ensures, c.loop-seats-test.true) in
    let ok = c.loop-seats.seats.ok.0 in
    let e = headed c.loop-seats.seats.items c.remove-token.new.self.items c.remove-token.result (omega arith) c.remove-token.ensures.value c.remove-token.ensures.items in
    let left = i.left q.0 q.1 in let live = left.live in
    let seat = next_seat q.0 c.args.t.now c.loop-seats.first.me.0 c.loop-seats.seats.items c.remove-token.new.self.items c.remove-token.result e left in
    let wide = c.args.t.now.wide in let n = total_is c.args.t.now.layout in (
      i.seat.0,
      seat.table,
      seat.slots,
      omega arith,
      joins c.args.t.now.table.shared.key.items q.0 c.loop-seats.first.id c.loop-seats.first.me.0 c.remove-token.result.token.id c.remove-token.result.token.me.0
          left.told live (seat.made ∙ later_made q.0 (c.loop-seats.first.me.0.parts + 0) (omega arith)),
    )

pub loop-seats-preserved : goal.loop-seats-preserved
loop-seats-preserved c =
    let i = c.loop-seats.invariant in let told = c.join_seat.ensures in
    let some : 0 < vec_len c.loop-seats.seats = grind (arith, nat_tests, c.is_empty.ensures, c.loop-seats-test.true) in
    let ok = c.loop-seats.seats.ok.0 in
    let e = headed c.loop-seats.seats.items c.remove-token.new.self.items c.remove-token.result (omega arith) c.remove-token.ensures.value c.remove-token.ensures.items in
    let w = ap (λ z. z.0) told.2 in record {
      joined = taken_next c.loop-seats.first.me.0 c.join_seat.new.seat.me.0 c.loop-seats.seats.items c.remove-token.new.self.items c.remove-token.result e w ∙ i.joined;
      seat = (told.0 ∙ i.seat.0, ap (λ z. z.1) told.2 ∙ i.seat.1);
      left = λ j all. next_left j c.args.t.now c.loop-seats.first.me.0 c.join_seat.new.seat.me.0 c.loop-seats.seats.items c.remove-token.new.self.items c.remove-token.result
          e w (i.left j all);
    }

pub returns-clause-told : goal.returns-clause-told
returns-clause-told c = λ j all.
    let none : vec_len c.loop-seats.seats ≡ 0 = grind (arith, nat_tests, c.is_empty.ensures, c.loop-seats-test.false) in
    let ok = c.loop-seats.seats.ok.0 in
    all_in j c.args.t.now c.loop-seats.first.me.0 c.loop-seats.seats.items (omega arith) (c.loop-seats.invariant.left j all)
