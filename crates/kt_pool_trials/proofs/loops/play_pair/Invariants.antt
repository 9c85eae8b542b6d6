use Rattle.std.specs.Prelude.{Some}
use Rattle.kt_pool_trials.proofs.loops.play_pair.Given as goal

abbrev pub ghosts-hired_pair : goal.ghosts-hired_pair
ghosts-hired_pair g a = record { table = Some a.common.table.now.table.shared.table_id }
