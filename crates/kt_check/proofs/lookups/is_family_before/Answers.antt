use Rattle.std.proofs.Common.{◌+◌, ◌<◌, length, sym, ◌∙◌, arith, drop}
use Rattle.kt_prog.specs.declared.programs.Family.{Family}
use Rattle.kt_check.proofs.Chained.{begun, chained, family_earlier, family_earlier_passed, family_not_before}
use Rattle.kt_check.proofs.lookups.is_family_before.Goals as goal

pub chain-init : goal.chain-init
chain-init c = (
  rw c.len-covered.ensures.exact c.first-at.ensures.within,
  λ lt. c.first-at.ensures.same (rw (← c.len-covered.ensures.exact) lt) ∙ c.hash.ensures.exact,
  begun (λ (x : Family). x.name) (family_earlier (record { name = c.args.name.now; place = c.args.place })) c.args.name.now (family_earlier_passed (record { name = c.args.name.now; place = c.args.place })) _ _ c.requires.exact _ _ c.hash.ensures.exact c.first-at.ensures,
)

pub chain-preserved : goal.chain-preserved
chain-preserved c =
    let there : c.chain.at < length c.args.families.now = omega arith in (
      rw c.len-covered.ensures.exact c.after-at.ensures.within,
      λ lt. c.after-at.ensures.same (rw (← c.len-covered.ensures.exact) lt) ∙ c.chain.invariant.1 c.chain-test.true,
      chained (λ (x : Family). x.name) (family_earlier (record { name = c.args.name.now; place = c.args.place })) c.args.name.now (family_earlier_passed (record { name = c.args.name.now; place = c.args.place })) _ _ c.requires.exact _ _ _ there c.index-families-at.is (c.chain.invariant.1 c.chain-test.true) c.after-at.ensures
          (family_not_before (record { name = c.args.name.now; place = c.args.place }) c.chain.at c.index-families-at.result (drop (c.chain.at + 1) c.args.families.now) (sym c.is_such.ensures ∙ c.if-is_such.false)) c.chain.invariant.2,
    )
