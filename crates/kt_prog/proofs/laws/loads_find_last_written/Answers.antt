use Rattle.kt_prog.proofs.LastWriter.{loads_find_last_written}
use Rattle.kt_prog.proofs.laws.loads_find_last_written.Goals as goal

pub returns : goal.returns
returns c = loads_find_last_written
