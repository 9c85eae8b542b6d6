use Rattle.std.specs.Prelude.{Some}
use Rattle.kt_pool_trials.proofs.crowds.play_eight.Given as goal

abbrev pub ghosts-hired_eight : goal.ghosts-hired_eight
ghosts-hired_eight g a = record { table = Some a.common.table.now.table.shared.table_id }
