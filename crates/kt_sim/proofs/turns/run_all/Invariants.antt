use Rattle.std.proofs.Common.{◌<◌, length}
use Rattle.kt_sim.specs.Choosing.{AreBelow}
use Rattle.kt_sim.specs.Left.{left_in}
use Rattle.kt_sim.specs.Simulated.{IsCalm, IsCounted, Follows}
use Rattle.kt_sim.proofs.turns.run_all.Given as goal

abbrev pub invariant-turns : goal.invariant-turns
invariant-turns l = record {
  calm : IsCalm l.simulation.core;
  counted : IsCounted l.simulation;
  follows : Follows l.initial.simulation.core l.simulation.core;
  below : AreBelow (length l.simulation.core.table.tasks) l.choices;
  main : 0 < length l.simulation.core.table.tasks;
}

abbrev pub decreases-turns : goal.decreases-turns
decreases-turns l = left_in l.simulation.core
