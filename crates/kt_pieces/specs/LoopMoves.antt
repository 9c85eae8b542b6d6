-- What the events of a loop do to a core that is known by paths, and where they are enabled, one after another.
use Rattle.std.specs.Prelude.{◌≡◌, ℕ, zero, suc, ◌<◌, List, [], ◌∷◌, None}
use Rattle.kt_order.specs.Body.{Stop}
use Rattle.kt_order.specs.Forest.{Unclaimed, Running, Ended, Finished}
use Rattle.kt_order.specs.Rest.{left}
use Rattle.kt_order.specs.Events.{MayPass}
use Rattle.kt_order.specs.Paths.{Earlier}
use Rattle.kt_prog.specs.Reference.{Placed, machine_of}
use Rattle.kt_prog.specs.declared.programs.Program.{Program}
use Rattle.kt_runs.specs.Rights.{rights_in}
use Rattle.kt_runs.specs.ByPath.{Path, child, ByPath, counts, IsTask, ForksNext, EndsNext, after_claim, after_end, after_fork, after_finish}

module _ (p : Program) where
  -- a loop forks these indexes, and its body ends
  abbrev pub after_loop_begins : List Placed → Path → ByPath p → ByPath p
  after_loop_begins [] q x = after_end p q x
  after_loop_begins (c ∷ cs) q x = after_loop_begins cs q (after_fork p c q x)

  abbrev pub CanBeginLoop : List Placed → Path → ByPath p → Type 0
  CanBeginLoop [] q x = IsTask p x q × ((x.get q).phase ≡ Running) × (left (machine_of p) (x.get q) ≡ Stop None)
  CanBeginLoop (c ∷ cs) q x = IsTask p x q × ((x.get q).phase ≡ Running) × ForksNext p c (x.get q) × CanBeginLoop cs q (after_fork p c q x)

  -- n indexes from one on are taken
  abbrev pub after_taking : ℕ → ℕ → Path → ByPath p → ByPath p
  after_taking i zero q x = x
  after_taking i (suc n) q x = after_taking (suc i) n q (after_claim p (child q i) x)

  abbrev pub CanTakeIndexes : ℕ → ℕ → Path → ByPath p → Type 0
  CanTakeIndexes i zero q x = Unit {0}
  CanTakeIndexes i (suc n) q x = IsTask p x (child q i) × ((x.get (child q i)).phase ≡ Unclaimed)
      × Earlier (machine_of p) (MayPass (machine_of p) (rights_in p)) (child q i) x.get × CanTakeIndexes (suc i) n q (after_claim p (child q i) x)

  -- an index ends, and is finished at once
  abbrev pub after_index_ends : Path → ByPath p → ByPath p
  after_index_ends q x = after_finish p q (after_end p q x)

  -- these indexes end
  abbrev pub after_retiring : List ℕ → Path → ByPath p → ByPath p
  after_retiring [] q x = x
  after_retiring (i ∷ is) q x = after_retiring is q (after_index_ends (child q i) x)

  abbrev pub CanRetireIndexes : List ℕ → Path → ByPath p → Type 0
  CanRetireIndexes [] q x = Unit {0}
  CanRetireIndexes (i ∷ is) q x = IsTask p x (child q i) × ((x.get (child q i)).phase ≡ Running) × EndsNext p (x.get (child q i))
      × (counts p x (child q i) ≡ 0) × CanRetireIndexes is q (after_index_ends (child q i) x)

  -- a loop whose body has ended is finished behind its indexes
  abbrev pub CanFinishLoop : Path → ByPath p → Type 0
  CanFinishLoop q x = IsTask p x q × ((x.get q).phase ≡ Ended) × ((k : ℕ) → k < counts p x q → (x.get (child q k)).phase ≡ Finished)
