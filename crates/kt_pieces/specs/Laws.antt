-- Statements of the laws of loops.
use Rattle.std.specs.Prelude.{◌≡◌, ℕ, ◌+◌, ◌≤◌, List, [], ◌++◌, length}
use mathlib.Core.Option.{some}
use lib.ListN.{get_elem?}
use Rattle.kt_order.specs.Forest.{Finished}
use Rattle.kt_runs.specs.ByPath.{Path}
use Rattle.kt_rule.specs.declared.views.IndexRun.{IndexRun}
use Rattle.kt_rule.specs.Lists.{weigh, In}
use Rattle.kt_rule.specs.Lies.{IndexLie, Lie, Lies}
use Rattle.kt_rule.specs.LoopWords.{LoopWords, Hand}
use Rattle.kt_rule.specs.LoopFacts.{index_times, Looped}

-- an index of a loop is with one seat at most, in hand or retired
abbrev pub TakenOnce : Type 0
TakenOnce = (workers : ℕ) (lies : Lies) (s : LoopWords) (hands : List Hand) → Looped workers lies s hands → (p : Path) (i : ℕ)
    → weigh (λ (h : Hand). index_times p i h.loops.taken) hands + weigh (λ (h : Hand). index_times p i h.loops.retired) hands ≤ 1

-- where no index of a task is to be retired, each that it has has ended, and no piece of it is left
abbrev pub NoneLeft : Type 0
NoneLeft = (workers : ℕ) (lies : Lies) (s : LoopWords) (hands : List Hand) → Looped workers lies s hands → (p : Path) (t : Lie) → lies p ≡ some t
    → t.unretired ≡ 0 → ((i : ℕ) (x : IndexLie) → get_elem? t.indexes i ≡ some x → x.phase ≡ Finished) × (t.pieces ≡ [])

-- indexes of a loop that a seat has in hand, the first ones, are no more than are to be retired
abbrev pub LeftIsEnough : Type 0
LeftIsEnough = (workers : ℕ) (lies : Lies) (s : LoopWords) (hands : List Hand) → Looped workers lies s hands → (p : Path) (t : Lie) → lies p ≡ some t
    → (id : ℕ) (h : Hand) → get_elem? hands id ≡ some h → (done rest : List IndexRun) → h.loops.taken ≡ done ++ rest
    → ((e : IndexRun) → In e done → e.spot.path ≡ p) → length done ≤ t.unretired
