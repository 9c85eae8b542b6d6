-- The way from a task in hand up to main: the tasks above it whose records the seat has found, and what the loads of the
-- records on this way tell.
use Rattle.std.specs.Prelude.{◌≡◌, ◌≢◌, ℕ, suc, ◌*◌, ◌≤◌, ◌⊎◌, [], ◌∷◌, ◌++◌, length, Option, Some, None}
use Rattle.atomic_table.specs.Table.{Step}
use Rattle.kt_law.specs.declared.limits.TheConstants.{DEPTH, WORKERS}
use Rattle.kt_law.specs.declared.stands.Stand.{Stand}
use Rattle.kt_law.specs.declared.stands.Stand.TheVariants as S
use Rattle.kt_runs.specs.ByPath.{Path, child}
use Rattle.kt_words.specs.Places.{place, record_word}
use Rattle.kt_words.specs.declared.layouts.TheConstants.{RECORDS}
use Rattle.kt_rule.specs.declared.views.Setup.{Setup}
use Rattle.kt_rule.specs.declared.views.Spot.{Spot}
use Rattle.kt_rule.specs.declared.views.View.{View}
use Rattle.kt_rule.specs.Lists.{In}
use Rattle.kt_rule.specs.Records.{layout_of}
use Rattle.kt_rule.specs.Rule.{Slots}
use Rattle.kt_rule.specs.Steps.{state_place, state_word, IsState}
use Rattle.kt_tasks.specs.Hands.{IsInHand}

-- the task is in hand, or above one in hand and its record was found
abbrev pub IsReached : View → Spot → Type 0
IsReached v m = IsInHand v m
    ⊎ (In m v.seen.line × ((h : Spot) × (rest : Path) × IsInHand v h × (m.path ++ rest ≡ h.path)))

-- and it lies in the record with this number
abbrev pub IsReachedAt : View → ℕ → Spot → Type 0
IsReachedAt v at m = IsReached v m × (m.berth.at ≡ at)

-- the task is a fork of the other
abbrev pub IsForkOf : Spot → Spot → Type 0
IsForkOf parent m = (k : ℕ) × (m.path ≡ child parent.path k) × (m.berth.fork ≡ suc k)

-- the record of one task more was found
abbrev pub climbed : View → Spot → View
climbed v o = record v { seen = record v.seen { line = o ∷ v.seen.line } }

-- records were found, and nothing else of the view changed
abbrev pub HasClimbed : View → View → Type 0
HasClimbed v w = w ≡ record v { seen = record v.seen { line = w.seen.line } }

-- the word tells where the parent of the task lies, whose record is found; main has none
abbrev pub Climbed : View → Spot → ℕ → View → Type 0
Climbed v m n w = ((m.path ≡ []) × (n ≡ 0) × (w ≡ v))
    ⊎ ((o : Spot) × IsForkOf o m × (n ≡ suc o.berth.at) × (w ≡ climbed v o))

-- the record of the parent was found, if there is one
abbrev pub IsAbove : View → Spot → View → Option ℕ → Type 0
IsAbove v m w None = (m.path ≡ []) × (w ≡ v)
IsAbove v m w (Some at) = (o : Spot) × IsForkOf o m × (at ≡ o.berth.at) × (w ≡ climbed v o)

-- the state of whichever task on the way lies there was found
abbrev pub ShowsReached : Step Slots → View → ℕ → View → Type 0
ShowsReached st v n w = ((j : Setup) → v.setup ≡ Some j → (m : Spot) → IsReached v m → st.word ≡ state_place (layout_of j) m.berth.at
    → ((b : Stand) × IsState m.berth b × (b ≢ S.Empty) × (n ≡ state_word m.berth b)) × (length m.path ≤ DEPTH)) × (w ≡ v)

-- and its parent
abbrev pub Climbs : Step Slots → View → ℕ → View → Type 0
Climbs st v n w = (j : Setup) → v.setup ≡ Some j → (m : Spot) → IsReached v m
    → st.word ≡ place (layout_of j) (record_word m.berth.at 2)
    → Climbed v m n w × (n ≤ RECORDS * j.workers) × (j.workers ≤ WORKERS)
