-- The core that words and views show, computed: of each path the execution that has it, else what the record says of the task that
-- was published with it, else what the seats have of the index with this number of the loop above. Its store is the element words.
-- Beside it, the book of a loop that has begun: how often words and views show a piece of it, and what its record says is left.
use Rattle.std.specs.Prelude.{ℕ, suc, cond, nat_eq, nat_lt, ◌&&◌, Bool, List, [], ◌∷◌, ◌++◌, map}
use mathlib.Core.Option.{Option, none, some}
use Rattle.atomic_table.specs.Table.{State}
use Rattle.kt_law.specs.declared.stands.Stand.TheVariants as S
use Rattle.kt_order.specs.Forest.{Phase, Task, Unclaimed, Running, Ended, Finished, fresh}
use Rattle.kt_order.specs.Named.{Named}
use Rattle.kt_order.specs.Paths.{same_path}
use Rattle.kt_prog.specs.Calls.{CallTree, Index}
use Rattle.kt_prog.specs.Reference.{Placed, machine_of}
use Rattle.kt_runs.specs.Theorems.{whole_at}
use Rattle.kt_runs.specs.ByPath.{Path}
use Rattle.kt_words.specs.Places.{record_word}
use Rattle.kt_words.specs.declared.pairs.Pair.{Pair}
use Rattle.kt_rule.specs.declared.views.Setup.{Setup}
use Rattle.kt_rule.specs.declared.views.Execution.{Execution}
use Rattle.kt_rule.specs.declared.views.IndexRun.{IndexRun}
use Rattle.kt_rule.specs.declared.views.Spot.{Spot}
use Rattle.kt_rule.specs.declared.views.View.{View}
use Rattle.kt_rule.specs.Lies.{blank}
use Rattle.kt_rule.specs.Records.{layout_of, word_at, elements}
use Rattle.kt_rule.specs.Paths.{parent_of, number_of}
use Rattle.kt_rule.specs.Views.{spot_path, path_of, executions, indexes_of}
use Rattle.kt_rule.specs.LoopWords.{loop_words, hands_of}
use Rattle.kt_rule.specs.LoopFacts.{shown_pieces}
use Rattle.kt_rule.specs.Rule.{Slots}
use Rattle.kt_rule.specs.Steps.{state_word}

-- the first with the path
abbrev pub find : {A : Type 0} → (A → Path) → Path → List A → Option A
find f p [] = none
find f p (x ∷ xs) = cond (same_path p (f x)) (some x) (find f p xs)

abbrev pub all_from : {A : Type 0} → (View → List A) → List View → List A
all_from g [] = []
all_from g (v ∷ vs) = g v ++ all_from g vs

-- what is under way in a seat's hands, or was in a joined seat's
abbrev pub under_way : View → List Execution
under_way v = v.tasks.running ++ v.tasks.halted

-- how a task stands that a worker runs: a loop whose indexes have begun has done its body
abbrev pub phase_under : Execution → Phase
phase_under e = cond e.looping Ended Running

-- the call of an index; the paths of a program are counted from 1
abbrev pub index_call : Path → CallTree → ℕ → Placed
index_call p call i = record { path = map suc p; job = Index call i }

-- whether it is this index of the loop at the path
abbrev pub is_index_at : Path → ℕ → IndexRun → Bool
is_index_at p i e = same_path p e.spot.path && nat_eq i e.index

abbrev pub find_index : Path → ℕ → List IndexRun → Option IndexRun
find_index p i [] = none
find_index p i (e ∷ es) = cond (is_index_at p i e) (some e) (find_index p i es)

abbrev pub all_retired : List View → List IndexRun
all_retired = all_from (λ (v : View). v.loops.retired)

abbrev pub all_taken : List View → List IndexRun
all_taken = all_from (λ (v : View). v.loops.taken)

module _ (j : Setup) (s : State Slots View) where
  -- an index of a loop that an execution has: retired, taken, or of those that nobody has taken
  abbrev pub untaken : Path → ℕ → Execution → Task (machine_of j.program)
  untaken p i e = cond (nat_lt i (indexes_of e)) (fresh (machine_of j.program) (index_call p e.spot.berth.call i)) (blank j)

  abbrev pub of_index : Phase → Path → ℕ → IndexRun → Task (machine_of j.program)
  of_index phase p i e = record { call = index_call p e.spot.berth.call i; phase = phase; answers = e.answers; done = e.done }

  abbrev pub of_taken : Path → ℕ → Execution → Option IndexRun → Task (machine_of j.program)
  of_taken p i x none = untaken p i x
  of_taken p i x (some e) = of_index Running p i e

  abbrev pub of_retired : Path → ℕ → Execution → Option IndexRun → Task (machine_of j.program)
  of_retired p i x none = of_taken p i x (find_index p i (all_taken s.views))
  of_retired p i x (some e) = of_index Finished p i e

  -- of the loop at a path, as the execution has it that runs it or ran it
  abbrev pub of_loop : Path → ℕ → Option Execution → Task (machine_of j.program)
  of_loop p i none = blank j
  of_loop p i (some x) = of_retired p i x (find_index p i (all_retired s.views))

  abbrev pub of_above : Path → ℕ → Task (machine_of j.program)
  of_above p i = of_loop p i (find path_of p (all_from executions s.views))

  -- a task that nobody has begun: the stand in its record is Unclaimed, or it is claimed for a thief
  abbrev pub of_spot : Path → Option Spot → Task (machine_of j.program)
  of_spot p none = of_above (parent_of p) (number_of p)
  of_spot p (some m) = record {
    call = whole_at (map suc p) m.berth.call;
    phase = cond (nat_eq (word_at (layout_of j) s.words (record_word m.berth.at 0)) (state_word m.berth S.Unclaimed)) Unclaimed Running;
    answers = [];
    done = 0;
  }

  abbrev pub of_execution : Phase → Path → Execution → Task (machine_of j.program)
  of_execution phase p e = record { call = whole_at (map suc p) e.spot.berth.call; phase = phase; answers = e.answers; done = e.done }

  abbrev pub of_ran : Path → Option Execution → Task (machine_of j.program)
  of_ran p none = of_spot p (find spot_path p (all_from (λ (v : View). v.region.mine) s.views))
  of_ran p (some e) = of_execution Finished p e

  abbrev pub of_running : Path → Option Execution → Task (machine_of j.program)
  of_running p none = of_ran p (find path_of p (all_from (λ (v : View). v.tasks.ran) s.views))
  of_running p (some e) = of_execution (phase_under e) p e

  abbrev pub shown : Named (machine_of j.program)
  shown = record { get = λ p. of_running p (find path_of p (all_from under_way s.views)); store = elements (layout_of j) s.words }

  -- the book of the loop that runs or ran in the record a: how often a piece of its positions is shown, and how many of its
  -- indexes are not retired
  abbrev pub shown_book : ℕ → (Pair → ℕ) × ℕ
  shown_book a = (
    shown_pieces j.workers (loop_words (layout_of j) s.words) (hands_of s.views) a,
    word_at (layout_of j) s.words (record_word a 4),
  )
