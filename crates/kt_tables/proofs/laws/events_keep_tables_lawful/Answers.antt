use Rattle.kt_tables.proofs.TableKept.{table_kept}
use Rattle.kt_tables.proofs.laws.events_keep_tables_lawful.Goals as goal

pub returns : goal.returns
returns c = λ p input ok e x ask none lawful. table_kept p input (c.programs_meet_laws.ensures p ok) c.bodies_keep.ensures c.loops_are_direct.ensures ok x lawful e ask none
