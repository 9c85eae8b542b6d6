use Rattle.std.proofs.Common.{arith, ℕ, ◌+◌, slice_index_or, ap, ◌∙◌, sym, subst, inl, inr}
use Rattle.kt_rule.specs.Lists.{In}
use Rattle.kt_rule.proofs.Moves.{at_below}
use Rattle.kt_tasks.proofs.Filling.{at_or, before_or, filled_more, filled_one, clear_more, set_so}
use Rattle.kt_tasks.proofs.records.write_ints.Goals as goal

pub loop-i-preserved : goal.loop-i-preserved
loop-i-preserved c = let v = c.loop-i.invariant in let s = c.set.ensures.seat in let i = c.loop-i.i in
    let old = c.loop-i.s.token.me.0 in let new = c.set.new.s.token.me.0 in let n = slice_index_or c.args.ints.now i 0 in
    let is = c.set.ensures.set in (
      s.0 ∙ v.0,
      s.1 ∙ v.1,
      s.2 ∙ v.2,
      s.3 ∙ v.3,
      filled_more old new (5 + i) n is c.args.s.now.token.me.0 v.4,
      (λ b h. let r = clear_more old new (5 + i) n is v.5 b h in omega arith),
      (λ k x less at. elim (before_or k i less) [
        | inl l ↦ (filled_one old new (5 + i) n is).kept (record { field = 5 + k; word = x }) (v.6 k x l at)
        | inr e ↦ subst (λ (z : ℕ). In (record { field = 5 + z; word = x }) new.region.built) (sym e)
            (set_so old new (5 + i) n is x (ap (λ (z : ℕ). slice_index_or c.args.ints.now z 0) (sym e) ∙ at_or c.args.ints.now k 0 x at))
      ]),
    )

pub returns-clause-ints : goal.returns-clause-ints
returns-clause-ints c = λ k n at. let below = at_below c.args.ints.now k n at in let over = c.loop-i-test.false in
    c.loop-i.invariant.6 k n (omega arith) at
