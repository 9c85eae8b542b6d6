use Rattle.kt_sim.proofs.operations.SimulationOps.fork.Goals as goal

pub operate-requires-clause-can : goal.operate-requires-clause-can
operate-requires-clause-can c = rw c.copied.ensures c.requires
