use Rattle.std.proofs.Common.{◌∷◌, [], arith, refl, ◌∙◌}
use Rattle.kt_request.proofs.Words.{empty_fits, empty_packed}
use Rattle.kt_request.proofs.Turning.{start_scanned, end_full, end_empty, live_scanned}
use Rattle.kt_request.proofs.scanning.scan_all.Goals as goal

pub loop-i-init : goal.loop-i-init
loop-i-init c = let o = c.restart.ensures.room in (
  [],
  start_scanned c.args.first c.args.held.now c.args.s.now.token.me.0 c.restart.new.self c.new-given.result.items c.restart.ensures.notes
      c.restart.ensures.frame c.new-given.ensures c.requires.none_promised,
  refl,
  (empty_fits, empty_packed),
  refl,
  refl,
  refl,
  o.entries,
  o.objects,
)

pub loop-i-preserved : goal.loop-i-preserved
loop-i-preserved c = let h = c.loop-i.invariant in let i_is = h.2 in let test = c.loop-i-test.true in let o = c.turn.ensures.room in
    let t = c.in-Some.ensures.turned c.args.first c.args.s.now.token.me.0 h.0 h.1 (omega arith) h.3 c.requires.inside.1 (omega arith) in (
      t.0 ∷ h.0,
      t.1,
      omega arith,
      t.2,
      c.turn.ensures.seat.0 ∙ h.4,
      c.turn.ensures.seat.1 ∙ h.5,
      c.turn.ensures.seat.2 ∙ h.6,
      o.entries ∙ h.7,
      o.objects ∙ h.8,
    )

pub turn-requires : goal.turn-requires
turn-requires c = let h = c.loop-i.invariant in let i_is = h.2 in let test = c.loop-i-test.true in let inside = c.requires.inside.0 in
    let room = c.requires.room.0 in let more = c.requires.room.1 in let e = h.7 in let o = h.8 in record {
      seat = h.4 ∙ c.requires.seat;
      live = live_scanned c.args.t.now.layout c.args.s.now.worker c.loop-i.s.worker c.args.s.now.token.me.0 c.loop-i.s.token.me.0 h.6
          h.1.only c.requires.live;
      inside = (omega arith, c.requires.inside.2);
      held = c.requires.held;
      room = (omega arith, omega arith);
      scanned = (c.args.first, c.args.s.now.token.me.0, h.0, h.1, omega arith, h.3, c.requires.inside.1, omega arith);
    }

pub returns : goal.returns
returns c = let h = c.loop-i.invariant in let i_is = h.2 in let test = c.loop-i-test.false in let most = c.loop-i.auto.i-end in record {
  seat = (h.4, h.5, h.6);
  room = record { objects = h.8; entries = h.7 };
  ended = (
    h.0,
    end_full c.args.first c.args.held.now c.args.s.now.token.me.0 h.0 c.loop-i.s.token.me.0 c.loop-i.scan c.loop-i.given.items h.1
        (omega arith),
  );
}

pub returns-in-None : goal.returns-in-None
returns-in-None c = let h = c.loop-i.invariant in let i_is = h.2 in let test = c.loop-i-test.true in let o = c.turn.ensures.room in
    let t = c.in-None.ensures.turned c.args.first c.args.s.now.token.me.0 h.0 h.1 (omega arith) h.3 c.requires.inside.1 (omega arith) in record {
      seat = (c.turn.ensures.seat.0 ∙ h.4, c.turn.ensures.seat.1 ∙ h.5, c.turn.ensures.seat.2 ∙ h.6);
      room = record { objects = o.objects ∙ h.8; entries = o.entries ∙ h.7 };
      ended = (
        h.0,
        end_empty c.args.first c.args.held.now c.args.s.now.token.me.0 h.0 c.loop-i.s.token.me.0 c.turn.new.s.token.me.0 c.loop-i.scan
            c.turn.new.scan c.loop-i.given.items c.turn.new.given.items _ h.1 (omega arith) (omega arith) t,
      );
    }
