use Rattle.std.specs.Prelude.{Some}
use Rattle.kt_pool.proofs.openings.told.Given as goal

abbrev pub ghosts-tell : goal.ghosts-tell
ghosts-tell a = record { setup = Some (record { program = a._program.now; input = a._input.now; workers = a._workers }) }
