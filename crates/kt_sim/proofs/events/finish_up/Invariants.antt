use Rattle.std.proofs.Common.{◌<◌, length}
use Rattle.kt_sim.specs.Left.{left_in}
use Rattle.kt_sim.specs.Turns.{Leads}
use Rattle.kt_sim.proofs.events.finish_up.Given as goal

abbrev pub invariant-up : goal.invariant-up
invariant-up l = record { leads : Leads l.initial.core l.core; there : l.current < length l.core.table.tasks }

abbrev pub decreases-up : goal.decreases-up
decreases-up l = left_in l.core
