-- The opening of a run, seats that are made and joined, and what the close says.
use Rattle.std.specs.Prelude.{◌≡◌, ◌≢◌, ℕ, ◌+◌, ◌-◌, ◌*◌, ◌<◌, ◌≤◌, ◌||◌, ◌⊎◌, List, [], ◌∷◌, ◌++◌, length, map, false, true, Some}
use Rattle.atomic_table.specs.Table.{Step}
use Rattle.kt_law.specs.declared.limits.TheConstants.{INDEXES, TASKS}
use Rattle.kt_law.specs.declared.stands.Stand.TheVariants as S
use Rattle.kt_order.specs.Forest.{Task}
use Rattle.kt_order.specs.Lists.{nth}
use Rattle.kt_order.specs.Sequential.{Run, Entry, whole}
use Rattle.kt_order.specs.Shown.{entry_of, Begins}
use Rattle.kt_prog.specs.Entries.{tasks_of, indexes_of as indexes_in}
use Rattle.kt_prog.specs.Reference.{machine_of, main_placed, opened_with}
use Rattle.kt_runs.specs.ByPath.{Path, child}
use Rattle.kt_words.specs.Places.{total_of, record_word, worker_word, Own}
use Rattle.kt_words.specs.Words.{packed_state, packed_head, packed_pair}
use Rattle.kt_words.specs.declared.layouts.TheConstants.{RECORDS}
use Rattle.kt_rule.specs.declared.views.Setup.{Setup}
use Rattle.kt_rule.specs.declared.views.Execution.{Execution}
use Rattle.kt_rule.specs.declared.views.IndexRun.{IndexRun}
use Rattle.kt_rule.specs.declared.views.View.{View}
use Rattle.kt_rule.specs.Lists.{times, In}
use Rattle.kt_rule.specs.Records.{layout_of, word_at, elements, drawn_at, positions_at, stop_at, state_of, head_of}
use Rattle.kt_rule.specs.Weights.{is_task, is_index}
use Rattle.kt_rule.specs.LoopFacts.{index_times}
use Rattle.kt_rule.specs.Views.{claimed_in, begun_in, executions, main_berth, main_spot, empty_region, no_tasks, nothing_seen, no_draws, quiet_desk, no_loops}
use Rattle.kt_rule.specs.Facts.{IsHeadAt, IsAccessAt, task_in, index_task}
use Rattle.kt_rule.specs.Rule.{Slots}
use Rattle.kt_rule.specs.Steps.{new_lie}

-- the words of the opening: main is unclaimed in record 0, one number is drawn, and the elements hold the input
pub record IsOpening (j : Setup) (ws : List ℕ) : Type 0 where
  pub wide : total_of (layout_of j) ≤ length ws
  pub input : elements (layout_of j) ws ≡ opened_with j.program.families j.input
  pub drawn : word_at (layout_of j) ws drawn_at ≡ 1
  pub positions : word_at (layout_of j) ws positions_at ≡ 0
  pub stop : word_at (layout_of j) ws stop_at ≡ 0
  pub state : word_at (layout_of j) ws (record_word 0 0) ≡ packed_state (state_of (new_lie main_berth))
  pub head : word_at (layout_of j) ws (record_word 0 1) ≡ packed_head (head_of (new_lie main_berth))
  pub parent : word_at (layout_of j) ws (record_word 0 2) ≡ 0
  pub extent : word_at (layout_of j) ws (record_word 0 3) ≡ packed_pair (record { low = 0; high = 0 })
  pub unretired : word_at (layout_of j) ws (record_word 0 4) ≡ 0
  pub own : (k : ℕ) (o : Own) → k < j.workers → word_at (layout_of j) ws (worker_word k o) ≡ 0
  pub others : (a : ℕ) → a ≢ 0 → a < RECORDS * j.workers → word_at (layout_of j) ws (record_word a 0) ≡ 0
  pub heads : (a : ℕ) → a < RECORDS * j.workers → IsHeadAt (word_at (layout_of j) ws (record_word a 1))
  pub accesses : (a k : ℕ) → a < RECORDS * j.workers → k < 8 → IsAccessAt (layout_of j).objects
      (word_at (layout_of j) ws (record_word a (13 + k)))

-- the first seat stands for all, and its worker is 0
abbrev pub first_view : Setup → View
first_view j = record {
  setup = Some j;
  worker = 0;
  parts = j.workers;
  made = 1;
  region = record { spots = main_spot ∷ []; mine = main_spot ∷ []; built = [] };
  tasks = no_tasks;
  seen = nothing_seen;
  draws = no_draws;
  desk = quiet_desk;
  loops = no_loops;
}

abbrev pub Opens : Setup → Step Slots → View → ℕ → View → Type 0
Opens j st v n w = w ≡ first_view j

-- a seat for the next worker
abbrev pub keeps_most : View → View
keeps_most v = record v { parts = v.parts - 1; made = v.made + 1 }

abbrev pub newcomer : View → View
newcomer v = record {
  setup = v.setup;
  worker = v.made;
  parts = 1;
  made = 0;
  region = empty_region;
  tasks = no_tasks;
  seen = nothing_seen;
  draws = no_draws;
  desk = quiet_desk;
  loops = no_loops;
}

-- one seat takes in all lists of another; what that one had under way is left where it stopped
abbrev pub together : View → View → View
together v w = record v {
  parts = v.parts + w.parts;
  region = record v.region { mine = v.region.mine ++ w.region.mine };
  tasks = record v.tasks {
    claimed = v.tasks.claimed ++ w.tasks.claimed;
    promised = v.tasks.promised ++ w.tasks.promised;
    given = v.tasks.given ++ w.tasks.given;
    halted = v.tasks.halted ++ (w.tasks.running ++ w.tasks.halted);
    ran = v.tasks.ran ++ w.tasks.ran;
  };
  seen = record v.seen { known = v.seen.known ++ w.seen.known; stop = v.seen.stop || w.seen.stop };
  draws = record { hands = v.draws.hands ++ w.draws.hands; over = v.draws.over + w.draws.over };
  loops = record v.loops {
    pending = v.loops.pending ++ w.loops.pending;
    placed = false;
    pieces = v.loops.pieces ++ w.loops.pieces;
    taken = v.loops.taken ++ w.loops.taken;
    retired = v.loops.retired ++ w.loops.retired;
    emptied = v.loops.emptied ++ w.loops.emptied;
    over = v.loops.over + w.loops.over;
  };
}

abbrev pub the_run : (j : Setup) → Run (machine_of j.program)
the_run j = whole (machine_of j.program) main_placed (opened_with j.program.families j.input)

-- what an entry says of its task, as an entry of a run
abbrev pub run_entry : (j : Setup) → Execution → Entry (machine_of j.program)
run_entry j e = entry_of (machine_of j.program) (task_in j e)

-- and an index's
abbrev pub index_entry : (j : Setup) → IndexRun → Entry (machine_of j.program)
index_entry j e = entry_of (machine_of j.program) (index_task j e)

-- the task, or index, begins a body of the reference run
abbrev pub BeginsEntry : (j : Setup) → Task (machine_of j.program) → Type 0
BeginsEntry j u = (k : ℕ) × (x : Entry (machine_of j.program)) × (nth (the_run j).entries k ≡ Some x) × Begins (machine_of j.program) u x

abbrev pub BeginsBody : Setup → Execution → Type 0
BeginsBody j e = BeginsEntry j (task_in j e)

abbrev pub BeginsIndex : Setup → IndexRun → Type 0
BeginsIndex j e = BeginsEntry j (index_task j e)

-- the indexes that the seat took
abbrev pub taken_indexes : View → List IndexRun
taken_indexes v = v.loops.taken ++ v.loops.retired

-- the joined view is the reference run: the elements are its store; its entries, in its order, are those of some paths, where an index
-- is a child of its loop; each path of a task stands once among the claimed and once among the begun, each of an index once among the
-- retired, and no other does; and what was begun or retired says what the run's entry of its path says
pub record IsRun (j : Setup) (store : List ℕ) (v : View) : Type 0 where
  pub rows : (the_run j).store ≡ store
  pub paths : List Path
  pub entry : Path → Entry (machine_of j.program)
  pub entries : (the_run j).entries ≡ map entry paths
  pub once : (p : Path) → times p paths ≤ 1
  pub claimed : (p : Path) → claimed_in v p ≡ is_task (entry p).call * times p paths
  pub begun : (p : Path) → begun_in v p ≡ is_task (entry p).call * times p paths
  pub retired : (p : Path) (i : ℕ) → index_times p i v.loops.retired ≡ is_index (entry (child p i)).call * times (child p i) paths
  pub each : (e : Execution) → In e (executions v) → entry e.spot.path ≡ run_entry j e
  pub each_index : (e : IndexRun) → In e v.loops.retired → entry (child e.spot.path e.index) ≡ index_entry j e

-- the state word of main when it is finished
abbrev pub IsDone : (j : Setup) → List ℕ → Type 0
IsDone j ws = word_at (layout_of j) ws (record_word 0 0) ≡ packed_state (record { frame = 0; fork = 0; stand = S.Finished })

-- what the joined view says once all seats are back
pub record AtClose (j : Setup) (ws : List ℕ) (v : View) : Type 0 where
  pub claimed : (p : Path) → claimed_in v p ≤ 1
  pub begun : (p : Path) → begun_in v p ≤ claimed_in v p
  -- whether the run was stopped or not, what was begun begins bodies of the reference run
  pub begins : (e : Execution) → In e (executions v) → BeginsBody j e
  pub begins_index : (e : IndexRun) → In e (taken_indexes v) → BeginsIndex j e
  pub whole : IsDone j ws → IsRun j (elements (layout_of j) ws) v
  pub known : In [] v.seen.known → IsDone j ws
  -- the drawn counts: no more than the run's tasks and indexes, and just those where main is finished, and then they are within the
  -- limits
  pub drawn : word_at (layout_of j) ws drawn_at ≤ length (tasks_of j.program (the_run j).entries)
  pub counted : IsDone j ws → word_at (layout_of j) ws drawn_at ≡ length (tasks_of j.program (the_run j).entries)
  pub within : IsDone j ws → word_at (layout_of j) ws drawn_at ≤ TASKS
  pub positions : word_at (layout_of j) ws positions_at ≤ length (indexes_in j.program (the_run j).entries)
  pub positions_counted : IsDone j ws → word_at (layout_of j) ws positions_at ≡ length (indexes_in j.program (the_run j).entries)
  pub positions_within : IsDone j ws → word_at (layout_of j) ws positions_at ≤ INDEXES
  -- the stop word is 0 or 1; where it is 1 a drawn count is over its limit, and so is the run
  pub stop : word_at (layout_of j) ws stop_at ≤ 1
  pub stopped : v.seen.stop ≡ true → word_at (layout_of j) ws stop_at ≡ 1
  pub over : word_at (layout_of j) ws stop_at ≡ 1
      → (TASKS < word_at (layout_of j) ws drawn_at) ⊎ (INDEXES < word_at (layout_of j) ws positions_at)
