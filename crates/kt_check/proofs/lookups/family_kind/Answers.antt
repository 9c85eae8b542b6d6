use Rattle.std.proofs.Common.{◌≡◌, ◌+◌, ◌<◌, length, sym, ap, ◌∙◌, arith, drop}
use Rattle.kt_prog.specs.declared.programs.Family.{Family}
use Rattle.std.proofs.lemmas.List.{take_rest}
use Rattle.kt_prog.specs.Scope.{family_known}
use Rattle.kt_check.proofs.Chained.{begun, chained, family_look, family_passed}
use Rattle.kt_check.proofs.lookups.family_kind.Goals as goal

pub chain-init : goal.chain-init
chain-init c = (
  rw c.len-covered.ensures.exact c.first-at.ensures.within,
  λ lt. c.first-at.ensures.same (rw (← c.len-covered.ensures.exact) lt) ∙ c.hash.ensures.exact,
  begun (λ (x : Family). x.name) (family_look c.args.name.now) c.args.name.now (family_passed c.args.name.now) _ _ c.requires.exact _ _ c.hash.ensures.exact c.first-at.ensures,
)

pub chain-preserved : goal.chain-preserved
chain-preserved c =
    let there : c.chain.at < length c.args.families.now = omega arith in (
      rw c.len-covered.ensures.exact c.after-at.ensures.within,
      λ lt. c.after-at.ensures.same (rw (← c.len-covered.ensures.exact) lt) ∙ c.chain.invariant.1 c.chain-test.true,
      chained (λ (x : Family). x.name) (family_look c.args.name.now) c.args.name.now (family_passed c.args.name.now) _ _ c.requires.exact _ _ _ there c.index-families-at.is (c.chain.invariant.1 c.chain-test.true) c.after-at.ensures
          (family_passed c.args.name.now c.chain.at c.index-families-at.result (drop (c.chain.at + 1) c.args.families.now) (sym c.is.ensures ∙ c.if-is.false)) c.chain.invariant.2,
    )

pub returns : goal.returns
returns c =
    let all : c.chain.at ≡ c.len-covered.result = omega arith in
    let rest : family_known c.args.families.now c.args.name.now ≡ family_known (drop c.len-covered.result c.args.families.now) c.args.name.now = c.chain.invariant.2 ∙ ap (λ n. family_known (drop n c.args.families.now) c.args.name.now) all in
    c.family_kind_beyond.ensures ∙ ap (λ l. family_known l c.args.name.now) (take_rest c.args.families.now c.len-covered.result) ∙ sym rest
