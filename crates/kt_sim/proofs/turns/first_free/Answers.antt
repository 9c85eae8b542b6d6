-- Down from main, always to the first child that is not finished.
use Rattle.std.proofs.Common.{sym, ◌∙◌}
use Rattle.kt_sim.proofs.Descents.{step_down}
use Rattle.kt_sim.proofs.Turning.{free_here}
use Rattle.kt_sim.proofs.turns.first_free.Goals as goal

pub returns-then-not-has_ended : goal.returns-then-not-has_ended
returns-then-not-has_ended c =
    free_here c.args.core.now c.down.task c.phase.result c.down.invariant c.phase.ensures (sym c.has_ended.ensures ∙ c.if-not-has_ended.true)

pub down-smaller : goal.down-smaller
down-smaller c =
    (step_down c.args.core.now c.down.task c.in-Some.child c.is_lawful.ensures c.down.invariant (λ r e. sym c.in-Some.is ∙ c.open_child.ensures r e)).1

pub down-preserved : goal.down-preserved
down-preserved c =
    (step_down c.args.core.now c.down.task c.in-Some.child c.is_lawful.ensures c.down.invariant (λ r e. sym c.in-Some.is ∙ c.open_child.ensures r e)).0
