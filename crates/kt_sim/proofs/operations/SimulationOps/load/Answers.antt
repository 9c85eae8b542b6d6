-- The element is there, since the load is next in a body of an accepted program.
use Rattle.kt_sim.proofs.Operated.{load_inside}
use Rattle.kt_sim.proofs.operations.SimulationOps.load.Goals as goal

pub value-value-requires-clause-object : goal.value-value-requires-clause-object
value-value-requires-clause-object c = (load_inside c.args.self.now c.args.object c.args.element c.requires).0

pub value-value-requires-clause-element : goal.value-value-requires-clause-element
value-value-requires-clause-element c = (load_inside c.args.self.now c.args.object c.args.element c.requires).1
