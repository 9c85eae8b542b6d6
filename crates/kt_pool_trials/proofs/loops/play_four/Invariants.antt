use Rattle.std.specs.Prelude.{Some}
use Rattle.kt_pool_trials.proofs.loops.play_four.Given as goal

abbrev pub ghosts-hired_four : goal.ghosts-hired_four
ghosts-hired_four g a = record { table = Some a.common.table.now.table.shared.table_id }
