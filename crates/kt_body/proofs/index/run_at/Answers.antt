use Rattle.std.proofs.Common.{◌-◌, ap, ◌∙◌}
use Rattle.kt_prog.specs.Calls.{CallTree}
use Rattle.kt_body.proofs.Steps.{ran_same, still_here, still_is}
use Rattle.kt_body.proofs.Starting.{index_at, index_nowhere}
use Rattle.kt_body.proofs.index.run_at.Goals as goal

pub run_index_of-requires-clause-can : goal.run_index_of-requires-clause-can
run_index_of-requires-clause-can g c =
    let there = rw c.as_slice-tasks.ensures at c.if-at-tasks.true in
    let is = rw c.as_slice-tasks.ensures at c.index-tasks-at.is in
    let s = still_is _ _ _ (still_here _ c.requires.can) (index_at c.args.program.now c.args.call.now c.args.index _ c.index-tasks-at.result (c.saturating_sub-at.ensures ∙ ap (λ (k : CallTree). k.task - 1) c.call.view_is) there is) in
    s.can

pub returns-then-at-tasks : goal.returns-then-at-tasks
returns-then-at-tasks g c =
    let there = rw c.as_slice-tasks.ensures at c.if-at-tasks.true in
    let is = rw c.as_slice-tasks.ensures at c.index-tasks-at.is in
    let s = still_is _ _ _ (still_here _ c.requires.can) (index_at c.args.program.now c.args.call.now c.args.index _ c.index-tasks-at.result (c.saturating_sub-at.ensures ∙ ap (λ (k : CallTree). k.task - 1) c.call.view_is) there is) in
    s.ends _ _ c.run_index_of.ensures

pub returns-else-at-tasks : goal.returns-else-at-tasks
returns-else-at-tasks g c =
    let past = rw c.as_slice-tasks.ensures at c.if-at-tasks.false in
    ran_same _ _ _ (index_nowhere c.args.program.now c.args.call.now c.args.index _ (c.saturating_sub-at.ensures ∙ ap (λ (k : CallTree). k.task - 1) c.call.view_is) past)
