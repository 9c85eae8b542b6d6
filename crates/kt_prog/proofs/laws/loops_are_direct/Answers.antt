use Rattle.kt_prog.proofs.Plain.{loops_are_direct}
use Rattle.kt_prog.proofs.laws.loops_are_direct.Goals as goal

pub returns : goal.returns
returns c = loops_are_direct
