use Rattle.kt_tables.proofs.TableKept.{opening_table_lawful}
use Rattle.kt_tables.proofs.laws.opening_table_is_lawful.Goals as goal

pub returns : goal.returns
returns c = λ p input ok. opening_table_lawful p input (c.programs_meet_laws.ensures p ok)
