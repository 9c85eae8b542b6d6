use Rattle.kt_tables.proofs.TableDone.{have_no_more}
use Rattle.kt_tables.proofs.laws.tables_have_no_more.Goals as goal

pub returns : goal.returns
returns c = λ p input ok x lawful. have_no_more p input (c.programs_meet_laws.ensures p ok) c.bodies_keep.ensures c.loops_are_direct.ensures ok x lawful
