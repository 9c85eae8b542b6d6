use Rattle.std.specs.Prelude.{Some}
use Rattle.kt_pool_trials.proofs.scenes.play_one.Given as goal

abbrev pub ghosts-hired_one : goal.ghosts-hired_one
ghosts-hired_one g a = record { table = Some a.common.table.now.table.shared.table_id }
