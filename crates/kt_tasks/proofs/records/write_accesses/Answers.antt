use Rattle.std.proofs.Common.{arith, ℕ, ◌+◌, slice_index_or, ap, ◌∙◌, sym, subst, inl, inr}
use Rattle.kt_law.specs.declared.accesses.Access.{Access}
use Rattle.kt_law.specs.declared.modes.Mode.TheVariants.{R}
use Rattle.kt_words.specs.Words.{packed_access}
use Rattle.kt_rule.specs.Lists.{In}
use Rattle.kt_rule.proofs.Moves.{at_below}
use Rattle.kt_tasks.proofs.Filling.{at_or, at_there, before_or, filled_more, filled_one, clear_more, set_so}
use Rattle.kt_tasks.proofs.records.write_accesses.Goals as goal

-- what stands for an access that is not there
abbrev blank : Access
blank = record { lo = 0; hi = 0; mode = R }

pub pack_access-requires : goal.pack_access-requires
pack_access-requires c = (c.requires.fit c.loop-i.i _ (at_there c.args.accesses.now c.loop-i.i blank c.loop-i-test.true)).0

pub set-requires-clause-field : goal.set-requires-clause-field
set-requires-clause-field c = let fit = c.requires.fit c.loop-i.i _ (at_there c.args.accesses.now c.loop-i.i blank c.loop-i-test.true) in
    let few = c.requires.few in let less = c.loop-i-test.true in (
      omega arith,
      omega arith,
      (
        (λ e. absurd (omega arith)),
        (λ k small e. (slice_index_or c.args.accesses.now c.loop-i.i blank, fit.0, fit.1, c.pack_access.ensures)),
      ),
    )

pub loop-i-preserved : goal.loop-i-preserved
loop-i-preserved c = let v = c.loop-i.invariant in let s = c.set.ensures.seat in let i = c.loop-i.i in
    let old = c.loop-i.s.token.me.0 in let new = c.set.new.s.token.me.0 in let n = c.pack_access.result in
    let is = c.set.ensures.set in (
      s.0 ∙ v.0,
      s.1 ∙ v.1,
      s.2 ∙ v.2,
      s.3 ∙ v.3,
      filled_more old new (13 + i) n is c.args.s.now.token.me.0 v.4,
      (λ b h. let r = clear_more old new (13 + i) n is v.5 b h in omega arith),
      (λ k x less at. elim (before_or k i less) [
        | inl l ↦ (filled_one old new (13 + i) n is).kept (record { field = 13 + k; word = packed_access x }) (v.6 k x l at)
        | inr e ↦ subst (λ (z : ℕ). In (record { field = 13 + z; word = packed_access x }) new.region.built) (sym e)
            (set_so old new (13 + i) n is (packed_access x) (c.pack_access.ensures ∙ ap packed_access
            (ap (λ (z : ℕ). slice_index_or c.args.accesses.now z blank) (sym e) ∙ at_or c.args.accesses.now k blank x at)))
      ]),
    )

pub returns-clause-accesses : goal.returns-clause-accesses
returns-clause-accesses c = λ k a at. let below = at_below c.args.accesses.now k a at in let over = c.loop-i-test.false in
    c.loop-i.invariant.6 k a (omega arith) at
