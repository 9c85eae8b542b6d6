use Rattle.std.proofs.Common.{arith, ◌≡◌, ℕ, suc, ◌+◌, ◌∷◌, ◌++◌, [], take, ap, ◌∙◌, sym, subst}
use Rattle.kt_tasks.specs.Hands.{IsHeld}
use Rattle.kt_tasks.proofs.Fields.{get_below, int_found, take_next, take_whole}
use Rattle.kt_tasks.proofs.hands.ints.Goals as goal

pub loop-i-preserved : goal.loop-i-preserved
loop-i-preserved c = let v = c.loop-i.invariant in let s = c.field.ensures.seat in let len = c.push.ensures.len in let i_is = v.4 in (
  s.0 ∙ v.0,
  s.1 ∙ v.1,
  s.2 ∙ v.2,
  s.3 ∙ v.3,
  omega arith,
  (λ m held.
      let less = c.loop-i-test.true in let many = c.requires.count m held in let few = c.requires.inside.1 in
      let x = get_below m.berth.call.ints c.loop-i.i (omega arith) in
      let found = int_found m.berth c.loop-i.i c.field.result x.0
      (c.field.ensures.field.says m (subst (λ z. IsHeld z.0 c.args.at m) (sym v.1) held)) (omega arith) x.1 in
      c.push.ensures.items ∙ ((λ k. v.5 m held k ++ found k ∷ []) ∙ (take_next m.berth.call.ints c.loop-i.i x.0 x.1 ∙
      ap (λ (z : ℕ). take z m.berth.call.ints) (let e : suc c.loop-i.i ≡ c.loop-i.i + 1 = omega arith in e)))),
)

pub returns-clause-ints : goal.returns-clause-ints
returns-clause-ints c = λ m held. let v = c.loop-i.invariant in let many = c.requires.count m held in
    let over = c.loop-i-test.false in let end = c.loop-i.auto.i-end in
    v.5 m held ∙ take_whole c.loop-i.i m.berth.call.ints (omega arith)
