use Rattle.std.proofs.Common.{◌≡◌, ◌∙◌, sym, subst}
use Rattle.kt_prog.specs.Calls.{CallTree}
use Rattle.kt_prog.specs.Fits.{Fits}
use Rattle.kt_rule.specs.declared.views.Spot.{Spot}
use Rattle.kt_tasks.specs.Hands.{IsHeld}
use Rattle.kt_tasks.proofs.hands.call_of.Goals as goal

-- what was read is the call of whichever task in hand lies there
call_is : (c : goal.After-accesses-accesses) → (m : Spot) → IsHeld c.args.s.now.token.me.0 c.args.at m
    → record {
      task = c.head-head.result.task;
      depth = c.head-head.result.depth;
      length = c.length-length.result;
      ints = c.ints-ints.result.items;
      accesses = c.accesses-accesses.result.items;
    } ≡ m.berth.call
call_is c m held =
    let s1 = c.head-head.ensures.seat.1 in let s2 = c.length-length.ensures.seat.1 ∙ s1 in let s3 = c.ints-ints.ensures.seat.1 ∙ s2 in
    let head = c.head-head.ensures.head m held in
    let length = c.length-length.ensures.length m (subst (λ z. IsHeld z.0 c.args.at m) (sym s1) held) in
    let ints = c.ints-ints.ensures.ints m (subst (λ z. IsHeld z.0 c.args.at m) (sym s2) held) in
    let accesses = c.accesses-accesses.ensures.accesses m (subst (λ z. IsHeld z.0 c.args.at m) (sym s3) held) in λ i. record {
      task = (head i).task;
      depth = (head i).depth;
      length = length i;
      ints = ints i;
      accesses = accesses i;
    }

pub returns-clause-call : goal.returns-clause-call
returns-clause-call c = (
  call_is c,
  (λ j told. let q = c.requires.held in subst (λ (z : CallTree). Fits j.program z) (sym (call_is c q.0 q.1))
      (c.head-head.ensures.fits q.0 q.1.0 j told)),
)
