use Rattle.std.proofs.Common.{ap}
use Rattle.kt_prog.specs.Calls.{CallTree}
use Rattle.kt_body.proofs.Steps.{ran_same, still_here, still_is}
use Rattle.kt_body.proofs.Starting.{called, called_none}
use Rattle.kt_body.proofs.body.run_call.Goals as goal

pub run_task-requires-clause-can : goal.run_task-requires-clause-can
run_task-requires-clause-can g c =
    let there = rw c.as_slice-tasks.ensures at c.if-at-tasks.true in
    let is = rw c.as_slice-tasks.ensures at c.index-tasks-at.is in
    let s = still_is _ _ _ (still_here _ c.requires.can)
    (called _ _ c.call.inside.task c.index-tasks-at.result (ap (λ (k : CallTree). k.task) c.call.view_is) c.if-call-eq0.false c.requires.task there is) in
    s.can

pub returns-then-at-tasks : goal.returns-then-at-tasks
returns-then-at-tasks g c =
    let there = rw c.as_slice-tasks.ensures at c.if-at-tasks.true in
    let is = rw c.as_slice-tasks.ensures at c.index-tasks-at.is in
    let s = still_is _ _ _ (still_here _ c.requires.can)
    (called _ _ c.call.inside.task c.index-tasks-at.result (ap (λ (k : CallTree). k.task) c.call.view_is) c.if-call-eq0.false c.requires.task there is) in
    s.ends _ _ c.run_task.ensures

pub returns-else-at-tasks : goal.returns-else-at-tasks
returns-else-at-tasks g c =
    let past = rw c.as_slice-tasks.ensures at c.if-at-tasks.false in
    ran_same _ _ _ (called_none _ _ c.call.inside.task (ap (λ (k : CallTree). k.task) c.call.view_is) c.if-call-eq0.false c.requires.task past)
