use Rattle.std.proofs.Common.{arith, refl, ap, ◌∙◌}
use Rattle.kt_rule.specs.declared.views.View.{View}
use Rattle.kt_request.proofs.Dealing.{holds_none, holds_more, live_held}
use Rattle.kt_request.proofs.holding.hold_all.Goals as goal

pub loop-thief-init : goal.loop-thief-init
loop-thief-init c = (
  holds_none c.args.victim c.args.s.now.token.me.0 c.new-held.result.items c.new-held.ensures c.requires.leads.2,
  refl,
  refl,
  refl,
)

pub loop-thief-preserved : goal.loop-thief-preserved
loop-thief-preserved c = let h = c.loop-thief.invariant in let n = c.hold_into.ensures.held in (
  holds_more c.args.victim c.loop-thief.thief n.0 c.args.s.now.token.me.0 c.loop-thief.s.token.me.0 c.hold_into.new.s.token.me.0
      c.loop-thief.held.items c.hold_into.new.held.items h.0 n.1,
  c.hold_into.ensures.seat.0 ∙ h.1,
  c.hold_into.ensures.seat.1 ∙ h.2,
  c.hold_into.ensures.seat.2 ∙ h.3,
)

pub hold_into-requires : goal.hold_into-requires
hold_into-requires c = let h = c.loop-thief.invariant in record {
  seat = h.1 ∙ c.requires.seat;
  live = live_held c.args.t.now.layout c.args.s.now.worker c.loop-thief.s.worker c.args.victim c.loop-thief.thief
      c.args.s.now.token.me.0 c.loop-thief.s.token.me.0 c.loop-thief.held.items h.3 h.0 c.requires.live;
  inside = (c.loop-thief-test.true, c.requires.inside);
  leads = (ap (λ (z : View). z.desk.leads) h.0.is ∙ c.requires.leads.0, ap (λ (z : View). z.desk.victim) h.0.is ∙ c.requires.leads.1);
  room = h.0.few;
}

pub returns : goal.returns
returns c = let h = c.loop-thief.invariant in let test = c.loop-thief-test.false in let most = c.loop-thief.auto in let long = h.0.long in
    record {
      seat = (h.1, h.2, h.3);
      held = (h.0.found, h.0.order, omega arith, h.0.held_is, h.0.is);
    }
