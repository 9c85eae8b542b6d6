use Rattle.std.specs.Prelude.{Some}
use Rattle.kt_calls_bench.proofs.together.run_on.Given as goal

abbrev pub ghosts-run_at : goal.ghosts-run_at
ghosts-run_at g a = record { table = Some a.table.now.table.shared.table_id }
