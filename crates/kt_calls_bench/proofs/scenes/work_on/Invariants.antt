use Rattle.std.specs.Prelude.{Some}
use Rattle.kt_calls_bench.proofs.scenes.work_on.Given as goal

abbrev pub ghosts-work_at : goal.ghosts-work_at
ghosts-work_at g a = record { table = Some a.table.now.table.shared.table_id }
