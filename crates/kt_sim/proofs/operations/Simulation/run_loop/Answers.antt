-- The zeroing of a loop, and its beginning.
use Rattle.std.proofs.Common.{sym, ap, ◌∙◌}
use Rattle.kt_prog.specs.Calls.{CallTree}
use Rattle.kt_sim.proofs.Ends.{zero_stopped, zeroed, goes_on_after}
use Rattle.kt_sim.proofs.operations.Simulation.run_loop.Goals as goal

pub begin-requires-clause-zeroed : goal.begin-requires-clause-zeroed
begin-requires-clause-zeroed c =
    let z = (zeroed c.args.program.now c.args.call.now c.args.self.now c.run_zero.new.ops c.run_zero.result c.run_zero.ensures c.in-None.is c.requires.task
    c.loop_is_zeroing.ensures c.requires.loops).0 in
    (z.0, ap (λ (k : CallTree). k.length) (z.1 ∙ sym c.call.view_is))

pub begin-requires-clause-counted : goal.begin-requires-clause-counted
begin-requires-clause-counted c =
    (zeroed c.args.program.now c.args.call.now c.args.self.now c.run_zero.new.ops c.run_zero.result c.run_zero.ensures c.in-None.is c.requires.task
    c.loop_is_zeroing.ensures c.requires.loops).1.counted c.requires.counted

pub returns-in-Some-clause-goes : goal.returns-in-Some-clause-goes
returns-in-Some-clause-goes c =
    zero_stopped c.args.program.now c.args.call.now c.args.self.now c.run_zero.new.ops c.run_zero.result c.in-Some.stop c.run_zero.ensures c.in-Some.is

pub returns-in-None-clause-goes : goal.returns-in-None-clause-goes
returns-in-None-clause-goes c =
    goes_on_after c.args.self.now.core c.run_zero.new.ops.core c.begin.new.self.core c.begin.result
    (zeroed c.args.program.now c.args.call.now c.args.self.now c.run_zero.new.ops c.run_zero.result c.run_zero.ensures c.in-None.is c.requires.task
    c.loop_is_zeroing.ensures c.requires.loops).1.follows c.begin.ensures.goes
