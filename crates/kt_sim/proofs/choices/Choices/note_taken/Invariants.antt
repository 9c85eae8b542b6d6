use Rattle.std.proofs.Common.{◌<◌, ℕ}
use Rattle.kt_sim.specs.Choosing.{AreBelow}
use Rattle.kt_sim.proofs.choices.Choices.note_taken.Given as goal

abbrev pub invariant-loop-turn : goal.invariant-loop-turn
invariant-loop-turn l = (tasks : ℕ) → AreBelow tasks l.fn.self → l.task < tasks → AreBelow tasks l.self
