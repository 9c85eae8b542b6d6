use Rattle.std.proofs.Common.{◌-◌}
use Rattle.kt_intervals.proofs.chunks.run_next.Given as goal

abbrev pub ghosts-go : goal.ghosts-go
ghosts-go g a = record { start = record { view = g.R.Run.view a.run; count = a.index - a.chunk.from } }
