-- No index is in hand twice, nor in hand and retired.
use Rattle.std.proofs.Common.{◌≡◌, ◌≢◌, ℕ, ◌+◌, ◌≤◌, List, sym, arith}
use mathlib.Core.Option.{Option, none, some}
use lib.ListN.{get_elem?}
use Rattle.kt_order.specs.Forest.{Phase, Unclaimed, Running, Ended, Finished}
use Rattle.kt_runs.specs.ByPath.{Path}
use Rattle.kt_rule.specs.declared.views.IndexRun.{IndexRun}
use Rattle.kt_rule.specs.Lists.{In}
use Rattle.kt_rule.specs.Lies.{IndexLie, Lie, Lies}
use Rattle.kt_rule.specs.LoopWords.{LoopWords, Hand}
use Rattle.kt_rule.specs.LoopFacts.{index_times, index_tally, is_taken, is_retired, task_tally, Looped}
use Rattle.kt_rule.proofs.Sums.{weigh_one, weigh_two}
use Rattle.kt_pieces.specs.Laws.{TakenOnce}
use Rattle.kt_pieces.proofs.Ended.{index_some}

one_phase : (ph : Phase) → is_taken ph + is_retired ph ≤ 1
one_phase Unclaimed = omega arith
one_phase Running = omega arith
one_phase Ended = omega arith
one_phase Finished = omega arith

one_index : (o : Option IndexLie) → index_tally is_taken o + index_tally is_retired o ≤ 1
one_index none = omega arith
one_index (some x) = one_phase x.phase

pub one_tally : (i : ℕ) (o : Option Lie) → task_tally is_taken i o + task_tally is_retired i o ≤ 1
one_tally i none = omega arith
one_tally i (some t) = one_index (get_elem? t.indexes i)

pub taken_once : TakenOnce
taken_once workers lies s hands f p i =
    let a = f.taken p i in
    let b = f.retired p i in
    let c = one_tally i (lies p) in
    omega (arith, a, b, c)

module _ (workers : ℕ) (lies : Lies) (s : LoopWords) (hands : List Hand) (f : Looped workers lies s hands) (id : ℕ) (h : Hand)
    (at : get_elem? hands id ≡ some h) where
  pub own_once : (p : Path) (i : ℕ) → index_times p i h.loops.taken ≤ 1
  own_once p i =
      let a = weigh_one (λ (y : Hand). index_times p i y.loops.taken) hands id h at in
      let b = taken_once workers lies s hands f p i in
      omega (arith, a, b)

  -- what another seat has in hand, this one has not
  pub other_none : (seat : ℕ) (y : Hand) → get_elem? hands seat ≡ some y → seat ≢ id → (e : IndexRun) → In e y.loops.taken → (p : Path)
      → p ≡ e.spot.path → index_times p e.index h.loops.taken ≡ 0
  other_none seat y there_y ne e i p path =
      let a = weigh_two (λ (z : Hand). index_times p e.index z.loops.taken) hands seat id y h ne there_y at in
      let b = taken_once workers lies s hands f p e.index in
      let c = index_some p y.loops.taken e i (sym path) in
      omega (arith, a, b, c)
