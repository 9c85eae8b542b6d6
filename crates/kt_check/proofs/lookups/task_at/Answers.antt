use Rattle.std.proofs.Common.{◌≡◌, ◌+◌, ◌<◌, length, sym, ap, ◌∙◌, arith, drop}
use Rattle.kt_prog.specs.declared.programs.Task.{Task}
use Rattle.kt_check.proofs.Chained.{begun, chained, task_look, task_passed}
use Rattle.kt_check.proofs.lookups.task_at.Goals as goal

pub chain-init : goal.chain-init
chain-init c = (
  rw c.len-covered.ensures.exact c.first-at.ensures.within,
  λ lt. c.first-at.ensures.same (rw (← c.len-covered.ensures.exact) lt) ∙ c.hash.ensures.exact,
  begun (λ (x : Task). x.name) (task_look c.args.name.now) c.args.name.now (task_passed c.args.name.now) _ _ c.requires.exact _ _ c.hash.ensures.exact c.first-at.ensures,
)

pub chain-preserved : goal.chain-preserved
chain-preserved c =
    let there : c.chain.at < length c.args.tasks.now = omega arith in (
      rw c.len-covered.ensures.exact c.after-at.ensures.within,
      λ lt. c.after-at.ensures.same (rw (← c.len-covered.ensures.exact) lt) ∙ c.chain.invariant.1 c.chain-test.true,
      chained (λ (x : Task). x.name) (task_look c.args.name.now) c.args.name.now (task_passed c.args.name.now) _ _ c.requires.exact _ _ _ there c.index-tasks-at.is (c.chain.invariant.1 c.chain-test.true) c.after-at.ensures
          (task_passed c.args.name.now c.chain.at c.index-tasks-at.result (drop (c.chain.at + 1) c.args.tasks.now) (sym c.is.ensures ∙ c.if-is.false)) c.chain.invariant.2,
    )

pub returns-clause-passed : goal.returns-clause-passed
returns-clause-passed c =
    let all : c.chain.at ≡ c.len-covered.result = omega arith in
    c.chain.invariant.2 ∙ ap (λ n. task_look c.args.name.now n (drop n c.args.tasks.now)) all ∙ c.task_beyond.ensures.passed
