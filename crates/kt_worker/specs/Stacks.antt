-- The frames under way as a list, the topmost first, and for how many there is room.
use Rattle.std.specs.Prelude.{ℕ, List}
use Rattle.kt_worker.specs.declared.stacks.Level.{Level}

pub record Frames : Type 0 where
  pub levels : List Level
  pub room : ℕ
