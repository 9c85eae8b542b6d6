use Rattle.std.proofs.Common.{◌≡◌, arith, sym, ap, ◌∙◌, true, false}
use Rattle.kt_words.specs.Words.{packed_state}
use Rattle.kt_rule.specs.Steps.{stands}
use Rattle.kt_request.proofs.Seeing.{standing}
use Rattle.kt_request.proofs.Words.{empty_word}
use Rattle.kt_request.proofs.Turning.{noted_length, looked_now, turned_empty, claims_now, promised_saw, turned_plain, turned_dealt, live_scanned, only_stands, only_all, only_note}
use Rattle.kt_request.proofs.scanning.turn.Goals.{in-Empty, in_default}
use Rattle.kt_request.proofs.scanning.turn.Goals as goal

pub see_record-requires : goal.see_record-requires
see_record-requires c = let h = c.requires.scanned in let l = noted_length h.2 c.args.scan.now.notes h.3.scan_is.noted in
    let less = h.7 in let r = c.requires.room.0 in record {
      seat = c.stand-state.ensures.seat.0 ∙ c.requires.seat;
      live = live_scanned c.args.t.now.layout c.args.s.now.worker c.stand-state.new.s.worker c.args.s.now.token.me.0
          c.stand-state.new.s.token.me.0 c.stand-state.ensures.seat.2
          (only_stands c.args.s.now.token.me.0 c.stand-state.new.s.token.me.0 c.args.at _ (c.stand-state.ensures.looked ∙ ap (stands c.args.s.now.token.me.0 c.args.at) (sym c.stand-state.ensures.state.1))) c.requires.live;
      inside = c.requires.inside.0;
      standing = (
        c.stand-state.ensures.state.0,
        (elim c.match-matches.branch [
          | in-Empty w ↦ (let z : true ≡ false = sym w.matches-is ∙ c.if-matches.false in absurd (cc z))
          | in_default w ↦ w.in_default.not-Empty
        ]),
      );
      last = h.5.0;
      looked = (
        h.2,
        looked_now h.0 c.args.held.now h.1 h.2 c.args.s.now.token.me.0 c.args.scan.now c.args.given.now.items h.3 c.args.at h.4 h.6 h.7
            c.stand-state.new.s.token.me.0 (packed_state c.stand-state.result) (c.stand-state.ensures.looked ∙ ap (stands c.args.s.now.token.me.0 c.args.at) (sym c.stand-state.ensures.state.1)),
      );
      room = (omega arith, c.requires.room.1);
    }

pub offer-requires : goal.offer-requires
offer-requires c = let h = c.requires.scanned in
    let looked = looked_now h.0 c.args.held.now h.1 h.2 c.args.s.now.token.me.0 c.args.scan.now c.args.given.now.items h.3 c.args.at h.4 h.6 h.7
    c.stand-state.new.s.token.me.0 (packed_state c.stand-state.result) (c.stand-state.ensures.looked ∙ ap (stands c.args.s.now.token.me.0 c.args.at) (sym c.stand-state.ensures.state.1)) in
    let saw = c.see_record.ensures.saw h.2 looked h.3.scan_is h.5.1 in
    let claims = claims_now h.0 c.args.held.now h.1 h.2 c.args.s.now.token.me.0 c.args.scan.now c.args.given.now.items h.3 c.args.at h.4 h.6 h.7
    c.stand-state.new.s.token.me.0 (packed_state c.stand-state.result) (c.stand-state.ensures.looked ∙ ap (stands c.args.s.now.token.me.0 c.args.at) (sym c.stand-state.ensures.state.1)) c.see_record.new.s.token.me.0 c.see_record.new.scan c.see_record.result
    (standing c.stand-state.result c.stand-state.ensures.state.0 (elim c.match-matches.branch [
      | in-Empty w ↦ (let z : true ≡ false = sym w.matches-is ∙ c.if-matches.false in absurd (cc z))
      | in_default w ↦ w.in_default.not-Empty
    ])) saw c.if-not-see_record.false in record {
      seat = c.see_record.ensures.seat.0 ∙ (c.stand-state.ensures.seat.0 ∙ c.requires.seat);
      live = live_scanned c.args.t.now.layout c.args.s.now.worker c.see_record.new.s.worker c.args.s.now.token.me.0
          c.see_record.new.s.token.me.0 (c.see_record.ensures.seat.2 ∙ c.stand-state.ensures.seat.2)
          (only_all c.args.s.now.token.me.0 c.stand-state.new.s.token.me.0 c.see_record.new.s.token.me.0
          (only_stands c.args.s.now.token.me.0 c.stand-state.new.s.token.me.0 c.args.at _ (c.stand-state.ensures.looked ∙ ap (stands c.args.s.now.token.me.0 c.args.at) (sym c.stand-state.ensures.state.1)))
          (only_note c.stand-state.new.s.token.me.0 c.see_record.new.s.token.me.0 saw.0 h.2 saw.3)) c.requires.live;
      inside = c.requires.inside;
      held = c.requires.held;
      state = c.stand-state.ensures.state.0;
      claims = (h.0, h.2, saw.0, c.args.scan.now.notes, saw.1, claims);
    }

pub returns-then-matches-clause-turned : goal.returns-then-matches-clause-turned
returns-then-matches-clause-turned c first v0 ns sc at_is last_is whole less = turned_empty first c.args.held.now v0 ns c.args.s.now.token.me.0 c.args.scan.now c.args.given.now.items sc c.args.at at_is whole less
    c.stand-state.new.s.token.me.0 (packed_state c.stand-state.result) (c.stand-state.ensures.looked ∙ ap (stands c.args.s.now.token.me.0 c.args.at) (sym c.stand-state.ensures.state.1))
    (empty_word c.stand-state.result c.stand-state.ensures.state.0 (elim c.match-matches.branch [
      | in-Empty w ↦ w.in-Empty.is
      | in_default w ↦ (let z : true ≡ false = sym c.if-matches.true ∙ w.matches-is in absurd (cc z))
    ]))

pub returns-then-not-see_record-clause-turned : goal.returns-then-not-see_record-clause-turned
returns-then-not-see_record-clause-turned c first v0 ns sc at_is last_is whole less =
    let looked = looked_now first c.args.held.now v0 ns c.args.s.now.token.me.0 c.args.scan.now c.args.given.now.items sc c.args.at at_is whole less
    c.stand-state.new.s.token.me.0 (packed_state c.stand-state.result) (c.stand-state.ensures.looked ∙ ap (stands c.args.s.now.token.me.0 c.args.at) (sym c.stand-state.ensures.state.1)) in
    let saw = c.see_record.ensures.saw ns looked sc.scan_is last_is.1 in
    turned_plain first c.args.held.now v0 ns c.args.s.now.token.me.0 c.args.scan.now c.args.given.now.items sc c.args.at at_is whole less
    c.stand-state.new.s.token.me.0 (packed_state c.stand-state.result) (c.stand-state.ensures.looked ∙ ap (stands c.args.s.now.token.me.0 c.args.at) (sym c.stand-state.ensures.state.1)) c.see_record.new.s.token.me.0 c.see_record.new.scan c.see_record.result
    (standing c.stand-state.result c.stand-state.ensures.state.0 (elim c.match-matches.branch [
      | in-Empty w ↦ (let z : true ≡ false = sym w.matches-is ∙ c.if-matches.false in absurd (cc z))
      | in_default w ↦ w.in_default.not-Empty
    ])) saw c.if-not-see_record.true c.args.last c.last_of.result c.last_of.ensures.fits c.last_of.ensures.word last_is.1

pub returns-clause-turned : goal.returns-clause-turned
returns-clause-turned c first v0 ns sc at_is last_is whole less =
    let looked = looked_now first c.args.held.now v0 ns c.args.s.now.token.me.0 c.args.scan.now c.args.given.now.items sc c.args.at at_is whole less
    c.stand-state.new.s.token.me.0 (packed_state c.stand-state.result) (c.stand-state.ensures.looked ∙ ap (stands c.args.s.now.token.me.0 c.args.at) (sym c.stand-state.ensures.state.1)) in
    let saw = c.see_record.ensures.saw ns looked sc.scan_is last_is.1 in
    let claims = claims_now first c.args.held.now v0 ns c.args.s.now.token.me.0 c.args.scan.now c.args.given.now.items sc c.args.at at_is whole less
    c.stand-state.new.s.token.me.0 (packed_state c.stand-state.result) (c.stand-state.ensures.looked ∙ ap (stands c.args.s.now.token.me.0 c.args.at) (sym c.stand-state.ensures.state.1)) c.see_record.new.s.token.me.0 c.see_record.new.scan c.see_record.result
    (standing c.stand-state.result c.stand-state.ensures.state.0 (elim c.match-matches.branch [
      | in-Empty w ↦ (let z : true ≡ false = sym w.matches-is ∙ c.if-matches.false in absurd (cc z))
      | in_default w ↦ w.in_default.not-Empty
    ])) saw c.if-not-see_record.false in
    let ps = promised_saw first c.args.held.now v0 ns c.args.s.now.token.me.0 c.args.scan.now c.args.given.now.items sc c.args.at at_is whole less
    c.stand-state.new.s.token.me.0 (packed_state c.stand-state.result) (c.stand-state.ensures.looked ∙ ap (stands c.args.s.now.token.me.0 c.args.at) (sym c.stand-state.ensures.state.1)) c.see_record.new.s.token.me.0 c.see_record.new.scan c.see_record.result
    (standing c.stand-state.result c.stand-state.ensures.state.0 (elim c.match-matches.branch [
      | in-Empty w ↦ (let z : true ≡ false = sym w.matches-is ∙ c.if-matches.false in absurd (cc z))
      | in_default w ↦ w.in_default.not-Empty
    ])) saw in
    turned_dealt first c.args.held.now v0 ns c.args.s.now.token.me.0 c.args.scan.now c.args.given.now.items sc c.args.at at_is whole less
    c.stand-state.new.s.token.me.0 (packed_state c.stand-state.result) (c.stand-state.ensures.looked ∙ ap (stands c.args.s.now.token.me.0 c.args.at) (sym c.stand-state.ensures.state.1)) c.see_record.new.s.token.me.0 c.see_record.new.scan c.see_record.result
    (standing c.stand-state.result c.stand-state.ensures.state.0 (elim c.match-matches.branch [
      | in-Empty w ↦ (let z : true ≡ false = sym w.matches-is ∙ c.if-matches.false in absurd (cc z))
      | in_default w ↦ w.in_default.not-Empty
    ])) saw c.offer.new.s.token.me.0 c.offer.new.scan c.offer.new.given.items
    (c.offer.ensures.dealt first ns saw.0 c.args.scan.now.notes saw.1 claims sc.given_is ps) c.args.last c.last_of-2.result
    c.last_of-2.ensures.fits c.last_of-2.ensures.word last_is.1
