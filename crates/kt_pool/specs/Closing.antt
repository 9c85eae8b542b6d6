-- What the close of a pool says of its run.
use Rattle.std.specs.Prelude.{◌≡◌, ◌≢◌, ℕ, suc, ◌<◌, ◌≤◌, ◌↔◌, ◌⊎◌, true, List, [], length, map, slice_get, Some, IsPermutation}
use Rattle.std.specs.List.{flat_map}
use Rattle.kt_law.specs.declared.limits.TheConstants.{INDEXES, TASKS}
use Rattle.kt_order.specs.Lists.{nth}
use Rattle.kt_prog.specs.Entries.{tasks_of, indexes_of, faults_of}
use Rattle.kt_prog.specs.Outcome.{fault_or_rows, outcome_of}
use Rattle.kt_prog.specs.Runs.{TaskRun}
use Rattle.kt_prog.specs.declared.runs.Outcome.TheVariants as O
use Rattle.kt_runs.specs.ByPath.{Path}
use Rattle.kt_rule.specs.declared.seats.Seat.{Seat}
use Rattle.kt_rule.specs.declared.views.Setup.{Setup}
use Rattle.kt_rule.specs.declared.views.View.{View}
use Rattle.kt_rule.specs.Lists.{In}
use Rattle.kt_rule.specs.Records.{layout_of, word_at, elements, drawn_at, positions_at, stop_at}
use Rattle.kt_rule.specs.Views.{claimed_in}
use Rattle.kt_rule.specs.Close.{IsDone, AtClose}
use Rattle.kt_pool.specs.declared.closing.Closed.{Closed}
use Rattle.kt_pool.specs.Exact.{reference_of, done_entries, IsExact}

-- a task of the reference run has this path, whose numbers are counted from 1 there
abbrev pub IsOfReference : Setup → Path → Type 0
IsOfReference j p = (k : ℕ) × (x : TaskRun) × (nth (tasks_of j.program (reference_of j).entries) k ≡ Some x) × (x.path ≡ map suc p)

-- the run is the reference run: its rows and counts are, it is exact, and what was done met the same faults
pub record IsReferenceRun (j : Setup) (c : Closed) (v : View) : Type 0 where
  pub rows : c.rows.items ≡ (reference_of j).store
  pub tasks : c.tasks ≡ length (tasks_of j.program (reference_of j).entries)
  pub indexes : c.indexes ≡ length (indexes_of j.program (reference_of j).entries)
  pub within : (c.tasks ≤ TASKS) × (c.indexes ≤ INDEXES)
  pub outcome : outcome_of j.program j.input ≡ record {
    outcome = fault_or_rows c.rows.items (faults_of j.program (reference_of j).entries);
    tasks = c.tasks;
    indexes = c.indexes;
  }
  pub exact : IsExact j v
  pub faults : IsPermutation (faults_of j.program (reference_of j).entries) (faults_of j.program (done_entries j v))

-- what the last words of the table and the joined view say, whatever came of the run
pub record Closes (j : Setup) (c : Closed) (v : View) : Type 0 where
  pub words : List ℕ
  pub rows : c.rows.items ≡ elements (layout_of j) words
  pub tasks : c.tasks ≡ word_at (layout_of j) words drawn_at
  pub indexes : c.indexes ≡ word_at (layout_of j) words positions_at
  pub limit : (c.limit ≡ true) ↔ (word_at (layout_of j) words stop_at ≡ 1)
  pub close : AtClose j words v
  -- what was claimed is of the reference run
  pub claimed : (p : Path) → 0 < claimed_in v p → IsOfReference j p
  -- where main is finished the run is the reference run, and was not stopped
  pub whole : IsDone j words → IsReferenceRun j c v
  pub unstopped : IsDone j words → c.limit ≢ true

-- one of the seats given knew this
abbrev pub SomeSeat : (View → Type 0) → List Seat → Type 0
SomeSeat Knows seats = (k : ℕ) × (s : Seat) × (slice_get seats k ≡ Some s) × Knows s.token.me.0

-- that main is finished
abbrev pub KnowsMain : View → Type 0
KnowsMain v = In [] v.seen.known

-- that the stop word is 1
abbrev pub KnowsStop : View → Type 0
KnowsStop v = v.seen.stop ≡ true

-- a run that was stopped is over a limit, that of tasks or that of indexes, and so is the reference run; then nobody knew main finished
pub record Limits (j : Setup) (c : Closed) (seats : List Seat) : Type 0 where
  pub stopped : SomeSeat KnowsStop seats → c.limit ≡ true
  pub over : c.limit ≡ true
      → (TASKS < length (tasks_of j.program (reference_of j).entries)) ⊎ (INDEXES < length (indexes_of j.program (reference_of j).entries))
  pub outcome : c.limit ≡ true → outcome_of j.program j.input ≡ record { outcome = O.Limit; tasks = 0; indexes = 0 }
  pub unfinished : c.limit ≡ true → SomeSeat KnowsMain seats → ⊥

-- the lists of the view are those of all seats together
pub record IsOfAll (v : View) (seats : List Seat) : Type 0 where
  pub claimed : v.tasks.claimed ≡ flat_map (λ (s : Seat). s.token.me.0.tasks.claimed) seats
  pub ran : v.tasks.ran ≡ flat_map (λ (s : Seat). s.token.me.0.tasks.ran) seats
  pub taken : v.loops.taken ≡ flat_map (λ (s : Seat). s.token.me.0.loops.taken) seats
  pub retired : v.loops.retired ≡ flat_map (λ (s : Seat). s.token.me.0.loops.retired) seats
