use Rattle.std.proofs.Common.{sym, ◌∙◌}
use Rattle.kt_sim.proofs.Turning.{taken_here}
use Rattle.kt_sim.proofs.loops.try_taken.Goals as goal

pub run_taken-requires-clause-taken : goal.run_taken-requires-clause-taken
run_taken-requires-clause-taken c =
    taken_here c.args.simulation.now.core c.args.task c.args.index c.phase.result c.requires.there c.phase.ensures (sym c.is_looping.ensures ∙ c.if-not-is_looping.false)
    (λ r e. sym c.if-not-is_under_way.false ∙ c.is_under_way.ensures r e)
