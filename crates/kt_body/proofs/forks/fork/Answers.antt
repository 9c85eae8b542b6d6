use Rattle.std.proofs.Common.{sym, ◌∙◌}
use Rattle.kt_body.specs.Forking.{target_in}
use Rattle.kt_body.proofs.Steps.{ran_same}
use Rattle.kt_body.proofs.Astray.{astray_is}
use Rattle.kt_body.proofs.Passing.{at_fork}
use Rattle.kt_body.proofs.Rooms.{few_tasks_of, target_roomy}
use Rattle.kt_body.proofs.forks.fork.Goals as goal

pub target_at-requires : goal.target_at-requires
target_at-requires g c =
    rw c.program.ensures (few_tasks_of _ c.requires.ready.accepted)

pub fork_target-requires-clause-room : goal.fork_target-requires-clause-room
fork_target-requires-clause-room g c =
    target_roomy _ c.args.name.now (target_in c.in-Some.target) c.requires.ready.accepted (sym (rw c.program.ensures at c.in-Some.ensures))

pub returns-in-None : goal.returns-in-None
returns-in-None g c =
    ran_same _ _ _ (at_fork _ _ _ _ _ (sym (rw c.program.ensures at c.in-None.ensures)) ∙ astray_is tt)
