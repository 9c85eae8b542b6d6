use Rattle.kt_sim.proofs.Turning.{tried}
use Rattle.kt_sim.proofs.events.finish_up.Goals as goal

pub up-smaller : goal.up-smaller
up-smaller c =
    tried c.up.core c.try_event.new.core c.try_event.result c.in_ok-try_event.field-0 c.try_event.ensures.tries c.in_ok-try_event.was c.if-not-branch.false
