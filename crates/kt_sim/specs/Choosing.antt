-- What is kept beside the core to choose by.
use Rattle.std.specs.Prelude.{◌≡◌, ◌<◌, ℕ, All, length}
use Rattle.kt_sim.specs.declared.choices.Choices.{Choices}

-- all numbers are those of tasks, and each task has its parent
pub record AreBelow (tasks : ℕ) (c : Choices) : Type 0 where
  pub waiting : All (λ t. t < tasks) c.waiting.items
  pub running : All (λ t. t < tasks) c.running.items
  pub looping : All (λ t. t < tasks) c.looping.items
  pub held : All (λ h. h.task < tasks) c.held.items
  pub parents : All (λ t. t < tasks) c.parents.items
  pub count : length c.parents.items ≡ tasks
