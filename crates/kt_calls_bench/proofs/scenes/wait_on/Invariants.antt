use Rattle.std.specs.Prelude.{Some}
use Rattle.kt_calls_bench.proofs.scenes.wait_on.Given as goal

abbrev pub ghosts-wait_at : goal.ghosts-wait_at
ghosts-wait_at g a = record { table = Some a.table.now.table.shared.table_id }
