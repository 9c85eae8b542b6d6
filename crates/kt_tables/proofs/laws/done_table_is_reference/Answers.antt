use Rattle.kt_tables.proofs.TableDone.{gives_reference}
use Rattle.kt_tables.proofs.laws.done_table_is_reference.Goals as goal

pub returns : goal.returns
returns c = λ p input ok x lawful main. gives_reference p input (c.programs_meet_laws.ensures p ok) c.bodies_keep.ensures c.loops_are_direct.ensures ok x lawful main c.same_faults_same_answer.ensures
