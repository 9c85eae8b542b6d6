use Rattle.kt_worker.proofs.beginning.run_whole.Given as goal

abbrev pub ghosts-go : goal.ghosts-go
ghosts-go g a = record { view = g.R.Run.view a.run }
