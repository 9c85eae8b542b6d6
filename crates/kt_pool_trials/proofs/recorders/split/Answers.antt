use Rattle.std.proofs.Common.{◌<◌, Some, option_map, sym, ap, subst, ◌∙◌}
use Rattle.kt_rule.specs.Records.{layout_of}
use Rattle.kt_pool_trials.proofs.Intervals.{split_same}
use Rattle.kt_pool_trials.proofs.recorders.split.Goals as goal

pub invariant_of-hand : goal.invariant_of-hand
invariant_of-hand g c =
    let h = c.args.hand.now in let e = c.split.ensures.seat in
    let k = split_same _ _ _ _ _ c.split.ensures.split in
    record {
      here = h.here;
      seated = h.seated ∙ ap Some (sym e.0);
      laid = ap (option_map layout_of) k.setup ∙ h.laid;
      live = subst (λ n. 0 < n) (sym k.parts) h.live;
      named = e.2 ∙ (h.named ∙ sym k.worker);
      slots = e.1 ∙ h.slots;
      own = subst (λ n. n < h.table.now.layout.workers) (sym e.2) h.own;
      few = h.few;
    }
