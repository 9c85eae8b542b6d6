-- Indexes that are held.
use Rattle.std.proofs.Common.{◌≡◌, ◌<◌, ℕ, List, [], ◌∷◌, ◌++◌, All}
use Rattle.std.proofs.lemmas.List.Elements.{All-push, All-same}
use Rattle.kt_sim.specs.declared.choices.Held.{Held}

-- one more
pub held_push : (tasks : ℕ) (old new : List Held) (held : Held) → All (λ (h : Held). h.task < tasks) old → held.task < tasks → new ≡ old ++ held ∷ []
    → All (λ (h : Held). h.task < tasks) new
held_push tasks old new held all lt same =
    All-same (λ (h : Held). h.task < tasks) new (old ++ held ∷ []) same (All-push (λ (h : Held). h.task < tasks) old held all lt)
