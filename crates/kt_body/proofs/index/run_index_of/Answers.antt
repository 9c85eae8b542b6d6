use Rattle.std.proofs.Common.{ap}
use Rattle.kt_prog.specs.Statements.{State}
use Rattle.kt_body.proofs.Steps.{still_here, still_is}
use Rattle.kt_body.proofs.Starting.{index_given}
use Rattle.kt_body.proofs.index.run_index_of.Goals as goal

pub run_given-requires-clause-can : goal.run_given-requires-clause-can
run_given-requires-clause-can g c =
    let s = still_is _ _ _ (still_here _ c.requires.can) (index_given c.args.program.now c.args.call.now c.args.index c.args.task.now _ (ap (λ (s : State). s.locals) c.name_index.ensures.named)) in
    s.can

pub returns : goal.returns
returns g c =
    let s = still_is _ _ _ (still_here _ c.requires.can) (index_given c.args.program.now c.args.call.now c.args.index c.args.task.now _ (ap (λ (s : State). s.locals) c.name_index.ensures.named)) in
    s.ends _ _ c.run_given.ensures
