use Rattle.kt_sim.proofs.Outside.{event_leads}
use Rattle.kt_sim.proofs.events.do_event.Goals as goal

pub returns-in-Ok : goal.returns-in-Ok
returns-in-Ok c =
    event_leads c.args.event.now c.args.core.now c.enter.new.core c.is_lawful.ensures c.requires.calm c.requires.outside c.requires.there c.requires.free
    (c.in-Ok.ensures {u = tt}).done
