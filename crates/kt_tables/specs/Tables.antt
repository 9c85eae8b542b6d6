-- The core as a table: the store, and the tasks in the order of their forks. Task 0 is main. What each event asks and does is said
-- of the table; what it means is the state of the theory that the table shows.
use Rattle.std.specs.Prelude.{◌≡◌, ℕ, suc, ◌+◌, List, [], ◌∷◌, ◌++◌, length, replicate, take, Bool, true, false, cond, Option, Some, None, ◌&&◌, not, option_map, slice_get}
use Rattle.kt_order.specs.Books.{Piece, one_piece}
use Rattle.kt_order.specs.Paths.{same_path}
use Rattle.kt_prog.specs.Calls.{CallTree, main_call}
use Rattle.kt_prog.specs.Runs.{FaultRun}
use Rattle.kt_prog.specs.Script.{Fault}
use Rattle.kt_prog.specs.Reference.{opened_with}
use Rattle.kt_prog.specs.declared.programs.Program.{Program}
use Rattle.kt_runs.specs.Clash.{calls_clash}
use Rattle.kt_tables.specs.declared.events.BodyFault.{BodyFault}
use Rattle.kt_tables.specs.declared.events.Phase.{Phase}
use Rattle.kt_tables.specs.declared.events.Phase.TheVariants as P
use Rattle.kt_tables.specs.declared.events.Stand.{Stand}
use Rattle.kt_tables.specs.declared.events.Stand.TheVariants as S

-- an index of a loop
pub record IndexRow : Type 0 where
  pub stand : Stand
  -- the numbers that its loads found, and how many operations it has done
  pub answers : List ℕ
  pub done : ℕ
  -- the fault that ended its body
  pub fault : Option Fault

-- what a loop has besides a task, from its beginning on: its indexes in order, the pieces of those that are not taken, how many are
-- not retired, and how many have ended of these
pub record LoopPart : Type 0 where
  pub indexes : List IndexRow
  pub pieces : List Piece
  pub unretired : ℕ
  pub ended : ℕ

-- a task
pub record TaskRow : Type 0 where
  pub path : List ℕ
  pub call : CallTree
  pub phase : Phase
  -- the numbers that its loads found, and how many operations it has done
  pub answers : List ℕ
  pub done : ℕ
  -- the fault that ended its body
  pub fault : Option Fault
  -- empty where it is no loop, or one that has not begun
  pub loop : LoopPart

pub record TaskTable : Type 0 where
  pub store : List ℕ
  pub tasks : List TaskRow

abbrev pub no_loop : LoopPart
no_loop = record { indexes = []; pieces = []; unretired = 0; ended = 0 }

-- an index that nobody has taken
abbrev pub untaken_index : IndexRow
untaken_index = record { stand = S.Untaken; answers = []; done = 0; fault = None }

-- so many indexes in one piece, none of them retired
abbrev pub whole_loop : ℕ → LoopPart
whole_loop n = record { indexes = replicate n untaken_index; pieces = one_piece n; unretired = n; ended = 0 }

-- a task that nobody has claimed
abbrev pub fresh_row : List ℕ → CallTree → TaskRow
fresh_row path call = record { path = path; call = call; phase = P.Unclaimed; answers = []; done = 0; fault = None; loop = no_loop }

-- main unclaimed, and the input in the store
abbrev pub opening_table : Program → List ℕ → TaskTable
opening_table p input = record { store = opened_with p.families input; tasks = fresh_row [] main_call ∷ [] }

-- a path without its last number
abbrev pub parent_of : List ℕ → List ℕ
parent_of [] = []
parent_of (k ∷ []) = []
parent_of (k ∷ (j ∷ path)) = k ∷ parent_of (j ∷ path)

abbrev pub is_root : List ℕ → Bool
is_root [] = true
is_root (k ∷ path) = false

-- the second path is that of a child of the task at the first
abbrev pub is_child : List ℕ → List ℕ → Bool
is_child parent path = not (is_root path) && same_path (parent_of path) parent

-- both paths are those of children of one task
abbrev pub are_siblings : List ℕ → List ℕ → Bool
are_siblings p q = not (is_root p) && (not (is_root q) && same_path (parent_of p) (parent_of q))

abbrev pub is_finished : Phase → Bool
is_finished P.Finished = true
is_finished _ = false

abbrev pub is_open : TaskRow → Bool
is_open r = not (is_finished r.phase)

-- the number of the first task of which the test holds, where the first of the list has this number
abbrev pub first_from : ℕ → (TaskRow → Bool) → List TaskRow → Option ℕ
first_from n test [] = None
first_from n test (r ∷ rows) = cond (test r) (Some n) (first_from (suc n) test rows)

abbrev pub first_task : (TaskRow → Bool) → List TaskRow → Option ℕ
first_task test tasks = first_from 0 test tasks

-- of the tasks before number t, the first one of the frame of r that is not finished
abbrev pub open_before : ℕ → TaskRow → List TaskRow → Option ℕ
open_before t r tasks = first_task (λ (u : TaskRow). are_siblings u.path r.path && is_open u) (take t tasks)

-- and the first one that is not finished and clashes with r
abbrev pub clash_before : ℕ → TaskRow → List TaskRow → Option ℕ
clash_before t r tasks = first_task (λ (u : TaskRow). are_siblings u.path r.path && (is_open u && calls_clash u.call r.call)) (take t tasks)

-- the first child of r that is not finished
abbrev pub open_child : TaskRow → List TaskRow → Option ℕ
open_child r tasks = first_task (λ (u : TaskRow). is_child r.path u.path && is_open u) tasks

-- how many tasks of the list pass the test
abbrev pub count_rows : (TaskRow → Bool) → List TaskRow → ℕ
count_rows test [] = 0
count_rows test (r ∷ rows) = cond (test r) (suc (count_rows test rows)) (count_rows test rows)

-- the path of the next child of r
abbrev pub next_child : TaskRow → List TaskRow → List ℕ
next_child r tasks = r.path ++ suc (count_rows (λ (u : TaskRow). is_child r.path u.path) tasks) ∷ []

-- how many indexes the loops have that have begun
abbrev pub count_indexes : List TaskRow → ℕ
count_indexes [] = 0
count_indexes (r ∷ rows) = length r.loop.indexes + count_indexes rows

-- main is finished
abbrev pub MainIsFinished : List TaskRow → Type 0
MainIsFinished tasks = (r : TaskRow) → slice_get tasks 0 ≡ Some r → r.phase ≡ P.Finished

-- what contracts see of a core: the program and the input of its run, and the table of its tasks
pub record CoreState : Type 0 where
  pub program : Program
  pub input : List ℕ
  pub table : TaskTable

abbrev pub opening_state : Program → List ℕ → CoreState
opening_state p input = record { program = p; input = input; table = opening_table p input }

abbrev pub body_fault : BodyFault → Fault
body_fault f = record { law = f.law; line = f.line }

abbrev pub fault_run : TaskRow → Fault → FaultRun
fault_run r f = record { path = r.path; index = None; fault = f.law; line = f.line }

abbrev pub fault_of_row : TaskRow → Option FaultRun
fault_of_row r = option_map (fault_run r) r.fault
