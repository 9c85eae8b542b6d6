use Rattle.std.proofs.Common.{arith, ◌≡◌, ℕ, suc, ◌+◌, ◌∷◌, ◌++◌, [], take, ap, ◌∙◌, sym, subst}
use Rattle.kt_tasks.specs.Hands.{IsHeld}
use Rattle.kt_tasks.proofs.Fields.{take_next, take_whole}
use Rattle.kt_tasks.proofs.hands.accesses.Goals as goal

pub loop-i-preserved : goal.loop-i-preserved
loop-i-preserved c = let v = c.loop-i.invariant in let s = c.access.ensures.seat in let len = c.push.ensures.len in let i_is = v.4 in (
  s.0 ∙ v.0,
  s.1 ∙ v.1,
  s.2 ∙ v.2,
  s.3 ∙ v.3,
  omega arith,
  (λ m held.
      let less = c.loop-i-test.true in let many = c.requires.count m held in
      let found = c.access.ensures.access m (subst (λ z. IsHeld z.0 c.args.at m) (sym v.1) held) (omega arith) in
      c.push.ensures.items ∙ (ap (λ z. z ++ c.access.result ∷ []) (v.5 m held)
      ∙ (take_next m.berth.call.accesses c.loop-i.i c.access.result found ∙ ap (λ (z : ℕ). take z m.berth.call.accesses) (let e : suc c.loop-i.i ≡ c.loop-i.i + 1 = omega arith in e)))),
)

pub returns-clause-accesses : goal.returns-clause-accesses
returns-clause-accesses c = λ m held. let v = c.loop-i.invariant in let many = c.requires.count m held in
    let over = c.loop-i-test.false in let end = c.loop-i.auto.i-end in
    v.5 m held ∙ take_whole c.loop-i.i m.berth.call.accesses (omega arith)
