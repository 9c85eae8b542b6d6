use Rattle.kt_tables.proofs.TableTied.{tied}
use Rattle.kt_tables.proofs.laws.table_events_are_events.Goals as goal

pub returns : goal.returns
returns c = λ p input ok e x ask none lawful r q at is y shows. tied p input (c.programs_meet_laws.ensures p ok) c.bodies_keep.ensures c.loops_are_direct.ensures ok x lawful e ask none r q at is y shows
