use Rattle.kt_worker.proofs.looping.open_loop.Given as goal

abbrev pub ghosts-zero : goal.ghosts-zero
ghosts-zero g a = record { view = g.R.Run.view a.run }
