use Rattle.std.proofs.Common.{subst, ◌<◌, ◌*◌, refl}
use Rattle.kt_words.specs.declared.layouts.TheConstants.{RECORDS}
use Rattle.kt_rule.specs.Steps.{stands}
use Rattle.kt_seat_trials.proofs.Keeping.{live_of, seat_keeps, keeps_is}
use Rattle.kt_seat_trials.proofs.seats.looked_at.Goals as goal

pub stand-requires-clause-seat : goal.stand-requires-clause-seat
stand-requires-clause-seat c = c.requires.2.table

pub stand-requires-clause-live : goal.stand-requires-clause-live
stand-requires-clause-live c = live_of c.requires.0 c.args.t.now c.requires.1 c.args.s.now c.requires.2

pub stand-requires-clause-inside : goal.stand-requires-clause-inside
stand-requires-clause-inside c = subst (λ z. c.args.at < RECORDS * z.workers) c.requires.2.layout c.requires.3

pub returns : goal.returns
returns c = λ j k h. let e = c.stand.ensures.seat in seat_keeps j c.args.t.now k c.args.s.now c.stand.new.s e.0 e.1 e.2
    (keeps_is c.args.s.now.token.me.0 c.stand.new.s.token.me.0 (stands c.args.s.now.token.me.0 c.args.at c.stand.new.s.word) c.stand.ensures.looked
    (record { setup = refl; worker = refl; parts = refl; made = refl; spots = refl })) h
