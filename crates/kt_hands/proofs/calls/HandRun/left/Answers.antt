use Rattle.std.proofs.Common.{◌<◌, Some, option_map, sym, ap, subst, ◌∙◌}
use Rattle.kt_rule.specs.Records.{layout_of}
use Rattle.kt_hands.proofs.LoopSeats.{left_same}
use Rattle.kt_hands.proofs.calls.HandRun.left.Goals as goal

pub invariant_of-self : goal.invariant_of-self
invariant_of-self g c =
    let h = c.args.self.now in let e = c.left.ensures.seat in
    let k = left_same _ _ _ _ c.requires.runs c.left.ensures.left in
    record {
      here = h.here;
      seated = h.seated ∙ ap Some (sym e.0);
      laid = ap (option_map layout_of) k.setup ∙ h.laid;
      live = subst (λ n. 0 < n) (sym k.parts) h.live;
      named = e.2 ∙ (h.named ∙ sym k.worker);
      slots = e.1 ∙ h.slots;
      own = subst (λ n. n < h.table.now.layout.workers) (sym e.2) h.own;
      few = h.few;
    }
