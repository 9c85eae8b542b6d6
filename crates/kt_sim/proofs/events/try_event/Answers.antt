use Rattle.kt_sim.proofs.Outside.{event_leads}
use Rattle.kt_sim.proofs.events.try_event.Goals as goal

pub returns-in-Ok-clause-tries : goal.returns-in-Ok-clause-tries
returns-in-Ok-clause-tries c =
    event_leads c.args.event.now c.args.core.now c.step.new.self c.is_lawful.ensures c.requires.calm c.requires.outside c.requires.there (c.in-Ok.ensures {u = tt}).reply
    (c.in-Ok.ensures {u = tt}).done
