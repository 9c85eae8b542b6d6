-- The operation is the next one of a body that goes, so the core does it or has no memory.
use Rattle.std.proofs.Common.{ap, ◌∙◌, inl, inr, refl, arith}
use Rattle.kt_tables.specs.TableEvents.{state_after}
use Rattle.kt_sim.proofs.Ends.{body_free}
use Rattle.kt_sim.proofs.Moved.{can_ask, did, goes_in}
use Rattle.kt_sim.proofs.operations.Simulation.step.Goals as goal

pub enter-requires-clause-can : goal.enter-requires-clause-can
enter-requires-clause-can c = rw c.event-event.ensures (can_ask c.args.self.now c.args.operation c.requires.can c.requires.found c.requires.goes)

pub enter-requires-clause-free : goal.enter-requires-clause-free
enter-requires-clause-free c =
    let s = c.args.self.now in
    let h = c.requires.can in
    rw c.event-event.ensures
    (body_free s.index s.core s.task h.job h.answers h.count c.args.operation (goes_in s h.job h.answers h.count c.requires.goes h.stands.stands))

pub returns-then-tasks-gt-TASKS : goal.returns-then-tasks-gt-TASKS
returns-then-tasks-gt-TASKS c =
    did c.args.self.now _ c.args.operation c.requires.can c.requires.called c.requires.goes
    ((c.in-Ok.ensures {u = tt}).done ∙ ap (λ e. state_after e c.args.self.now.core) c.event-event.ensures) refl refl refl
    (inr (refl, omega (arith, c.tasks.ensures, c.if-tasks-gt-TASKS.true)))

pub returns-else-tasks-gt-TASKS : goal.returns-else-tasks-gt-TASKS
returns-else-tasks-gt-TASKS c =
    did c.args.self.now _ c.args.operation c.requires.can c.requires.called c.requires.goes
    ((c.in-Ok.ensures {u = tt}).done ∙ ap (λ e. state_after e c.args.self.now.core) c.event-event.ensures) refl refl refl
    (inl (c.requires.goes, omega (arith, c.tasks.ensures, c.if-tasks-gt-TASKS.false)))
