use Rattle.std.proofs.Common.{ap, ◌∙◌}
use Rattle.kt_tables.specs.TableEvents.{state_after}
use Rattle.kt_sim.proofs.Ends.{ask_end, body_free, end_goes}
use Rattle.kt_sim.proofs.operations.Simulation.end_by.Goals as goal

pub enter-requires-clause-can : goal.enter-requires-clause-can
enter-requires-clause-can c = rw c.event-event.ensures (ask_end c.args.self.now c.args.operation c.requires.last c.requires.due)

pub enter-requires-clause-free : goal.enter-requires-clause-free
enter-requires-clause-free c =
    let s = c.args.self.now in
    let h = c.requires.due in
    rw c.event-event.ensures (body_free s.index s.core s.task h.job h.answers h.count c.args.operation h.goes)

pub returns-in-Ok-clause-goes : goal.returns-in-Ok-clause-goes
returns-in-Ok-clause-goes c =
    (end_goes c.args.self.now c.args.operation c.enter.new.core c.is_lawful.ensures c.requires.last c.requires.due
    ((c.in-Ok.ensures {u = tt}).done ∙ ap (λ e. state_after e c.args.self.now.core) c.event-event.ensures)).goes

pub returns-in-Ok-clause-counted : goal.returns-in-Ok-clause-counted
returns-in-Ok-clause-counted c =
    (end_goes c.args.self.now c.args.operation c.enter.new.core c.is_lawful.ensures c.requires.last c.requires.due
    ((c.in-Ok.ensures {u = tt}).done ∙ ap (λ e. state_after e c.args.self.now.core) c.event-event.ensures)).indexes ∙ c.requires.counted

pub returns-in-Ok-clause-long : goal.returns-in-Ok-clause-long
returns-in-Ok-clause-long c =
    (end_goes c.args.self.now c.args.operation c.enter.new.core c.is_lawful.ensures c.requires.last c.requires.due
    ((c.in-Ok.ensures {u = tt}).done ∙ ap (λ e. state_after e c.args.self.now.core) c.event-event.ensures)).long
