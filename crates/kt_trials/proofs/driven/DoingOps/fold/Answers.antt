-- The operation is due.
use Rattle.kt_prog.specs.declared.runs.Operation.TheVariants as O
use Rattle.kt_trials.proofs.Driving.{can_go}
use Rattle.kt_trials.proofs.driven.DoingOps.fold.Goals as goal

pub go-requires-clause-can : goal.go-requires-clause-can
go-requires-clause-can c =
    let r = c.requires in
    can_go c.args.self.now.core c.args.self.now.task (O.Fold c.args.object c.args.element c.args.op c.args.value) r.program r.job r.answers r.count r.stands (r.next 0) tt tt
