use Rattle.kt_sim.proofs.Opening.{calm_opening, counted_opening}
use Rattle.kt_sim.proofs.run.simulate.Goals as goal

pub run_all-requires-clause-calm : goal.run_all-requires-clause-calm
run_all-requires-clause-calm c = calm_opening c.args.program.now c.args.input.now c.in_ok-core.core c.requires.whole (c.in_ok-core.ensures {u = tt})

pub run_all-requires-clause-counted : goal.run_all-requires-clause-counted
run_all-requires-clause-counted c = counted_opening c.args.program.now c.args.input.now c.in_ok-core.core (c.in_ok-core.ensures {u = tt})
