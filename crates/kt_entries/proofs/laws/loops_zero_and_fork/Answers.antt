use Rattle.kt_entries.proofs.Zeroings.{loops_zero_and_fork}
use Rattle.kt_entries.proofs.laws.loops_zero_and_fork.Goals as goal

pub returns : goal.returns
returns c = loops_zero_and_fork c.loop_is_zeroing.ensures
