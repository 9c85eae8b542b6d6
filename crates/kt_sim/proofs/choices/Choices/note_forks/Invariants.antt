use Rattle.std.proofs.Common.{◌≡◌, ◌<◌, All, length}
use Rattle.kt_sim.proofs.choices.Choices.note_forks.Given as goal

abbrev pub invariant-loop-number : goal.invariant-loop-number
invariant-loop-number l = record {
  waiting : All (λ t. t < l.tasks) l.self.waiting.items;
  running : All (λ t. t < l.tasks) l.self.running.items;
  looping : All (λ t. t < l.tasks) l.self.looping.items;
  held : All (λ h. h.task < l.tasks) l.self.held.items;
  parents : All (λ t. t < l.tasks) l.self.parents.items;
  count : length l.self.parents.items ≡ l.number;
}
