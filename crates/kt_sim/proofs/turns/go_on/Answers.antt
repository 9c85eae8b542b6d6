-- What a task that can go on does, by its phase.
use Rattle.kt_sim.proofs.Turning.{free_claim, free_running, free_ended, free_looping, not_finished}
use Rattle.kt_sim.proofs.turns.go_on.Goals as goal

pub do_event-requires-clause-free : goal.do_event-requires-clause-free
do_event-requires-clause-free c = free_claim c.args.simulation.now.core c.args.task c.phase.result c.requires.free c.phase.ensures c.in-Unclaimed.is

pub run_whole-requires-clause-running : goal.run_whole-requires-clause-running
run_whole-requires-clause-running c = free_running c.args.simulation.now.core c.args.task c.phase.result c.requires.free c.phase.ensures c.in-Running.is

pub loop_on-requires-clause-free : goal.loop_on-requires-clause-free
loop_on-requires-clause-free c = free_looping c.args.simulation.now.core c.args.task c.phase.result c.requires.free c.phase.ensures c.in-Looping.is

pub finish-requires-clause-free : goal.finish-requires-clause-free
finish-requires-clause-free c =
    free_ended c.args.simulation.now.core c.args.task c.phase.result c.requires.free c.phase.ensures c.is_lawful.ensures c.in-Ended.is

pub unreachable-requires : goal.unreachable-requires
unreachable-requires c = not_finished c.args.simulation.now.core c.args.task c.phase.result c.requires.free c.phase.ensures c.in-Finished.is
