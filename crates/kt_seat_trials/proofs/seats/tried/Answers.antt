use Rattle.std.proofs.Common.{arith, ◌++◌, ◌∙◌, ap, [], ◌∷◌, List, slice_get}
use Rattle.kt_rule.specs.declared.seats.Seat.{Seat}
use Rattle.kt_seat_trials.proofs.Keeping.{main_at_start, three, three_are, seats_are}
use Rattle.kt_seat_trials.proofs.seats.tried.Goals as goal

pub claimed_twice-first-requires : goal.claimed_twice-first-requires
claimed_twice-first-requires c =
    let q = c.requires in let n = q.1.count in let w = q.3 in
    let e = three_are c.args.seats.items c.remove-zero.new.self.items c.remove-one.new.self.items c.remove-two.new.self.items c.remove-zero.result
    c.remove-one.result c.remove-two.result (omega arith) c.remove-zero.ensures.value c.remove-zero.ensures.items c.remove-one.ensures.value
    c.remove-one.ensures.items c.remove-two.ensures.value c.remove-two.ensures.items in
    let s = seats_are q.0 c.args.t.now c.args.seats.items c.remove-zero.result c.remove-one.result c.remove-two.result e.0 q.1 in
    (q.0, (s.0, q.1.some, main_at_start q.0 c.args.seats.items c.remove-zero.result q.2 (ap (λ (l : List Seat). slice_get l 0) e.0)))

pub looked_at-main-requires : goal.looked_at-main-requires
looked_at-main-requires c =
    let q = c.requires in let n = q.1.count in let w = q.3 in
    let e = three_are c.args.seats.items c.remove-zero.new.self.items c.remove-one.new.self.items c.remove-two.new.self.items c.remove-zero.result
    c.remove-one.result c.remove-two.result (omega arith) c.remove-zero.ensures.value c.remove-zero.ensures.items c.remove-one.ensures.value
    c.remove-one.ensures.items c.remove-two.ensures.value c.remove-two.ensures.items in
    let s = seats_are q.0 c.args.t.now c.args.seats.items c.remove-zero.result c.remove-one.result c.remove-two.result e.0 q.1 in
    (q.0, 1, s.1, omega arith)

pub looked_at-next-requires : goal.looked_at-next-requires
looked_at-next-requires c =
    let q = c.requires in let n = q.1.count in let w = q.3 in
    let e = three_are c.args.seats.items c.remove-zero.new.self.items c.remove-one.new.self.items c.remove-two.new.self.items c.remove-zero.result
    c.remove-one.result c.remove-two.result (omega arith) c.remove-zero.ensures.value c.remove-zero.ensures.items c.remove-one.ensures.value
    c.remove-one.ensures.items c.remove-two.ensures.value c.remove-two.ensures.items in
    let s = seats_are q.0 c.args.t.now c.args.seats.items c.remove-zero.result c.remove-one.result c.remove-two.result e.0 q.1 in
    (q.0, 2, s.2, omega arith)

pub returns : goal.returns
returns c = λ j all.
    let q = c.requires in let n = q.1.count in let w = q.3 in let m = all.count in
    let e = three_are c.args.seats.items c.remove-zero.new.self.items c.remove-one.new.self.items c.remove-two.new.self.items c.remove-zero.result
    c.remove-one.result c.remove-two.result (omega arith) c.remove-zero.ensures.value c.remove-zero.ensures.items c.remove-one.ensures.value
    c.remove-one.ensures.items c.remove-two.ensures.value c.remove-two.ensures.items in
    let s = seats_are j c.args.t.now c.args.seats.items c.remove-zero.result c.remove-one.result c.remove-two.result e.0 all in
    three j c.args.t.now c.claimed_twice-first.new.s c.looked_at-main.new.s c.looked_at-next.new.s c.push_reserved-3.new.self.items
    (c.push_reserved-3.ensures.items ∙ ap (λ (l : List Seat). l ++ c.looked_at-next.new.s ∷ [])
    (c.push_reserved-2.ensures.items ∙ ap (λ (l : List Seat). l ++ c.looked_at-main.new.s ∷ [])
    (c.push_reserved.ensures.items ∙ ap (λ (l : List Seat). l ++ c.claimed_twice-first.new.s ∷ []) e.1)))
    (omega arith) (c.claimed_twice-first.ensures j s.0) (c.looked_at-main.ensures j 1 s.1) (c.looked_at-next.ensures j 2 s.2)
