-- That each task, and each index of a loop, of the reference run was executed exactly once, in the words of a run's record.
use Rattle.std.specs.Prelude.{◌≡◌, ℕ, suc, ◌≤◌, ◌&&◌, nat_eq, Bool, List, [], ◌++◌, map, IsPermutation}
use Rattle.kt_order.specs.Paths.{same_path}
use Rattle.kt_order.specs.Sequential.{Run, Entry}
use Rattle.kt_prog.specs.Entries.{tasks_of, indexes_of}
use Rattle.kt_prog.specs.Reference.{machine_of, reference}
use Rattle.kt_prog.specs.Runs.{IndexRun}
use Rattle.kt_runs.specs.ByPath.{Path}
use Rattle.kt_rule.specs.declared.views.Setup.{Setup}
use Rattle.kt_rule.specs.declared.views.View.{View}
use Rattle.kt_rule.specs.Lists.{times, weigh, one_if}
use Rattle.kt_rule.specs.LoopFacts.{index_times}
use Rattle.kt_rule.specs.Views.{path_of, claimed_in}
use Rattle.kt_rule.specs.Close.{run_entry, index_entry}
use Rattle.kt_pool.specs.declared.closing.Record.{Record}

-- what the seat knew into which all were joined
abbrev pub joined_view : Record → View
joined_view r = r.kept.view

abbrev pub workers_of : Record → ℕ
workers_of r = r.workers

-- whether the run was stopped at a limit
abbrev pub limit_of : Record → Bool
limit_of r = r.limit

abbrev pub reference_of : (j : Setup) → Run (machine_of j.program)
reference_of j = reference j.program j.input

-- how often a path stands among those of the tasks that ran to their end
abbrev pub ran_in : View → Path → ℕ
ran_in v p = times p (map path_of v.tasks.ran)

-- how often an index of the loop at a path stands among those that were retired
abbrev pub retired_in : View → Path → ℕ → ℕ
retired_in v p i = index_times p i v.loops.retired

-- how often it stands in a list of loops and numbers
abbrev pub pair_times : Path → ℕ → List (Path × ℕ) → ℕ
pair_times p i pairs = weigh (λ (x : Path × ℕ). one_if (same_path p x.0 && nat_eq i x.1)) pairs

-- each task of the reference run, whose paths are counted from 1 there, was claimed once and ran once, and no other was or did
pub record TasksOnce (j : Setup) (v : View) : Type 0 where
  pub paths : List Path
  pub named : map (λ t. t.path) (tasks_of j.program (reference_of j).entries) ≡ map (map suc) paths
  pub once : (p : Path) → times p paths ≤ 1
  pub claimed : (p : Path) → claimed_in v p ≡ times p paths
  pub ran : (p : Path) → ran_in v p ≡ times p paths

-- an index of the reference run by the path of its loop and its number, and how a loop that is counted from 0 is named there
abbrev pub name_of : IndexRun → Path × ℕ
name_of x = (x.path, x.index)

abbrev pub named_so : Path × ℕ → Path × ℕ
named_so x = (map suc x.0, x.1)

-- each index of a loop of the reference run was retired once, and no other was
pub record IndexesOnce (j : Setup) (v : View) : Type 0 where
  pub pairs : List (Path × ℕ)
  pub named : map name_of (indexes_of j.program (reference_of j).entries) ≡ map named_so pairs
  pub once : (p : Path) (i : ℕ) → pair_times p i pairs ≤ 1
  pub retired : (p : Path) (i : ℕ) → retired_in v p i ≡ pair_times p i pairs

-- what was done, as entries of a run: the tasks that ran, and the indexes that were retired
abbrev pub done_entries : (j : Setup) → View → List (Entry (machine_of j.program))
done_entries j v = map (run_entry j) v.tasks.ran ++ map (index_entry j) v.loops.retired

-- each task and each index of the reference run was executed exactly once, and no other was; each loaded what it loads there; and nothing
-- is under way
pub record IsExact (j : Setup) (v : View) : Type 0 where
  pub tasks : TasksOnce j v
  pub indexes : IndexesOnce j v
  pub entries : IsPermutation (reference_of j).entries (done_entries j v)
  pub idle : (v.tasks.running ≡ []) × (v.tasks.halted ≡ []) × (v.loops.taken ≡ [])
