use Rattle.kt_sim.proofs.Turning.{went_on}
use Rattle.kt_sim.proofs.turns.run_all.Goals as goal

pub turns-smaller : goal.turns-smaller
turns-smaller c =
    went_on c.turns.simulation.core c.turn.new.simulation.core c.turn.result c.in_ok-turn.field-0 c.turn.ensures.goes c.in_ok-turn.was
