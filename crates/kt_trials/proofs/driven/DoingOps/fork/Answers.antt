-- The fork is due, and there is room for its task.
use Rattle.std.proofs.Common.{◌<◌, length, sym, subst, arith}
use Rattle.kt_prog.specs.Calls.{CallTree}
use Rattle.kt_prog.specs.declared.runs.Operation.TheVariants as O
use Rattle.kt_trials.specs.Driven.{CanGo}
use Rattle.kt_runs.specs.States.{most_tasks}
use Rattle.kt_trials.proofs.Driving.{can_go}
use Rattle.kt_trials.proofs.driven.DoingOps.fork.Goals as goal

pub go-requires-clause-can : goal.go-requires-clause-can
go-requires-clause-can c =
    let r = c.requires in
    let d = c.args.self.now in
    let room : length d.core.table.tasks < most_tasks = omega arith in
    subst (λ (w : CallTree). CanGo d.core d.task (O.Fork w)) (sym c.copied.ensures)
    (can_go d.core d.task (O.Fork c.args.child.now) r.program r.job r.answers r.count r.stands (r.next 0) tt room)
