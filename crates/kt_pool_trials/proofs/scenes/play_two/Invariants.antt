use Rattle.std.specs.Prelude.{Some}
use Rattle.kt_pool_trials.proofs.scenes.play_two.Given as goal

abbrev pub ghosts-hired_two : goal.ghosts-hired_two
ghosts-hired_two g a = record { table = Some a.common.table.now.table.shared.table_id }
