use Rattle.std.proofs.Common.{◌-◌, suc}
use Rattle.kt_law.specs.declared.limits.TheConstants.{DEPTH}
use Rattle.kt_sim.specs.Turns.{IsFirst, depth_at}
use Rattle.kt_sim.proofs.turns.first_free.Given as goal

abbrev pub invariant-down : goal.invariant-down
invariant-down l = IsFirst l.task l.core

abbrev pub decreases-down : goal.decreases-down
decreases-down l = suc DEPTH - depth_at l.task l.core
