use Rattle.std.proofs.Common.{Some}
use Rattle.kt_crew.proofs.running.work_on.Given as goal

abbrev pub ghosts-work_at : goal.ghosts-work_at
ghosts-work_at g a = record { table = Some a.table.now.table.shared.table_id }
