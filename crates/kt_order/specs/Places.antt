-- How two places lie to each other, and tasks that are under way.
use Rattle.std.specs.Prelude.{◌≡◌, ◌≢◌, List, [], ◌∷◌}
use Rattle.kt_order.specs.Machine.{Machine}
use Rattle.kt_order.specs.Laws.{Rights}
use Rattle.kt_order.specs.Forest.{Unclaimed, Finished, Place, Here, Down, Later, Task, Forest, At}

-- neither place is the other or above it
abbrev pub Separate : Place → Place → Type 0
Separate Here Here = ⊥
Separate Here (Down q) = ⊥
Separate Here (Later q) = Unit {0}
Separate (Down p) Here = ⊥
Separate (Down p) (Down q) = Separate p q
Separate (Down p) (Later q) = Unit {0}
Separate (Later p) Here = Unit {0}
Separate (Later p) (Down q) = Unit {0}
Separate (Later p) (Later q) = Separate p q

-- the second place is below the first
abbrev pub IsAbove : Place → Place → Type 0
IsAbove Here Here = ⊥
IsAbove Here (Down q) = Unit {0}
IsAbove Here (Later q) = ⊥
IsAbove (Down p) Here = ⊥
IsAbove (Down p) (Down q) = IsAbove p q
IsAbove (Down p) (Later q) = ⊥
IsAbove (Later p) Here = ⊥
IsAbove (Later p) (Down q) = ⊥
IsAbove (Later p) (Later q) = IsAbove p q

module _ (m : Machine) where
  -- the task at the place
  abbrev pub Stands : Task m → Place → Forest m → Type 0
  Stands u q F = At m (λ v kids. v ≡ u) q F

  -- it is claimed and not finished
  abbrev pub IsUnderWay : Task m → Type 0
  IsUnderWay u = (u.phase ≢ Unclaimed) × (u.phase ≢ Finished)

  -- each of these calls forks the next, from c down to d
  abbrev pub Chain : Rights m → m.Call → List m.Call → m.Call → Type 0
  Chain r c [] d = r.Handed c d
  Chain r c (e ∷ es) d = r.Handed c e × Chain r e es d

  -- d comes from c by forks
  abbrev pub HandedDown : Rights m → m.Call → m.Call → Type 0
  HandedDown r c d = (es : List m.Call) × Chain r c es d
