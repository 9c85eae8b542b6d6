use Rattle.std.proofs.Common.{arith, ◌∙◌, ap}
use Rattle.kt_seat_trials.proofs.Keeping.{live_of, seat_keeps, main_keeps, mains_claim, claim_keeps}
use Rattle.kt_seat_trials.proofs.seats.claimed_twice.Goals as goal

pub claim_own-first-requires-clause-seat : goal.claim_own-first-requires-clause-seat
claim_own-first-requires-clause-seat c = c.requires.1.0.table

pub claim_own-first-requires-clause-live : goal.claim_own-first-requires-clause-live
claim_own-first-requires-clause-live c = live_of c.requires.0 c.args.t.now 0 c.args.s.now c.requires.1.0

pub claim_own-first-requires-clause-inside : goal.claim_own-first-requires-clause-inside
claim_own-first-requires-clause-inside c = let w = ap (λ z. z.workers) c.requires.1.0.layout in let n = c.requires.1.0.number in let s = c.requires.1.1 in
    (omega arith, omega arith)

pub claim_own-first-requires-clause-mine : goal.claim_own-first-requires-clause-mine
claim_own-first-requires-clause-mine c = mains_claim c.args.s.now.token.me.0 c.requires.1.2

pub claim_own-second-requires-clause-seat : goal.claim_own-second-requires-clause-seat
claim_own-second-requires-clause-seat c = c.claim_own-first.ensures.seat.0 ∙ c.requires.1.0.table

pub claim_own-second-requires-clause-live : goal.claim_own-second-requires-clause-live
claim_own-second-requires-clause-live c = let e = c.claim_own-first.ensures.seat in
    let m = mains_claim c.args.s.now.token.me.0 c.requires.1.2 in
    live_of c.requires.0 c.args.t.now 0 c.claim_own-first.new.s (seat_keeps c.requires.0 c.args.t.now 0 c.args.s.now c.claim_own-first.new.s e.0 e.1 e.2
    (claim_keeps c.args.s.now.token.me.0 c.claim_own-first.new.s.token.me.0 m.0 c.claim_own-first.result m.1 c.claim_own-first.ensures.claimed) c.requires.1.0)

pub claim_own-second-requires-clause-inside : goal.claim_own-second-requires-clause-inside
claim_own-second-requires-clause-inside c = let w = ap (λ z. z.workers) c.requires.1.0.layout in let n = c.requires.1.0.number in let s = c.requires.1.1 in
    let e = c.claim_own-first.ensures.seat.2 in (omega arith, omega arith)

pub claim_own-second-requires-clause-mine : goal.claim_own-second-requires-clause-mine
claim_own-second-requires-clause-mine c = let m = mains_claim c.args.s.now.token.me.0 c.requires.1.2 in
    mains_claim c.claim_own-first.new.s.token.me.0 (main_keeps c.args.s.now.token.me.0 c.claim_own-first.new.s.token.me.0
    (claim_keeps c.args.s.now.token.me.0 c.claim_own-first.new.s.token.me.0 m.0 c.claim_own-first.result m.1 c.claim_own-first.ensures.claimed) c.requires.1.2)

pub returns : goal.returns
returns c = λ j h. let m = mains_claim c.args.s.now.token.me.0 c.requires.1.2 in
    let e = c.claim_own-first.ensures.seat in let f = c.claim_own-second.ensures.seat in
    let k = claim_keeps c.args.s.now.token.me.0 c.claim_own-first.new.s.token.me.0 m.0 c.claim_own-first.result m.1 c.claim_own-first.ensures.claimed in
    let n = mains_claim c.claim_own-first.new.s.token.me.0 (main_keeps c.args.s.now.token.me.0 c.claim_own-first.new.s.token.me.0 k c.requires.1.2) in
    seat_keeps j c.args.t.now 0 c.claim_own-first.new.s c.claim_own-second.new.s f.0 f.1 f.2
    (claim_keeps c.claim_own-first.new.s.token.me.0 c.claim_own-second.new.s.token.me.0 n.0 c.claim_own-second.result n.1 c.claim_own-second.ensures.claimed)
    (seat_keeps j c.args.t.now 0 c.args.s.now c.claim_own-first.new.s e.0 e.1 e.2 k h)
