use Rattle.kt_loops.proofs.splits.split.Given as goal

abbrev pub ghosts-exchange : goal.ghosts-exchange
ghosts-exchange a = record { parts = a.parts }
