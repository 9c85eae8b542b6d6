use Rattle.std.proofs.Common.{◌≡◌, ◌<◌, ◌+◌, suc, length, ap, ◌∙◌, arith, drop}
use Rattle.kt_sim.specs.Answering.{least_among}
use Rattle.kt_tables.specs.TableLaws.{faults_in}
use Rattle.kt_sim.proofs.Outside.{row_there}
use Rattle.kt_sim.proofs.LeastFaults.{least_step}
use Rattle.kt_sim.proofs.faults.least_fault.Goals as goal

pub loop-task-preserved : goal.loop-task-preserved
loop-task-preserved c =
    let p = c.args.core.now.program in
    let tasks = c.args.core.now.table.tasks in
    let k = c.loop-task.task in
    let below : k < length tasks = omega (arith, c.loop-task-test.true, c.tasks-task-end.ensures) in
    let r = row_there tasks k below in
    let next : k + 1 ≡ suc k = omega arith in
    ap (λ o. least_among o (faults_in p (drop (k + 1) tasks))) (c.least_at-least.ensures r.0 r.1)
    ∙ least_step p tasks k (k + 1) r.0 c.loop-task.least next r.1 ∙ c.loop-task.invariant
