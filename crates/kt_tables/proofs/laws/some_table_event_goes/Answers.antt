use Rattle.kt_tables.proofs.TableGoes.{some_event}
use Rattle.kt_tables.proofs.laws.some_table_event_goes.Goals as goal

pub returns : goal.returns
returns c = λ p input ok x lawful room unfinished. some_event p input x lawful (c.programs_meet_laws.ensures p ok) c.bodies_keep.ensures c.loops_are_direct.ensures ok room unfinished
