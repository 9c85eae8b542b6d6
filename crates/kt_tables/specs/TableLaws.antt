-- Which tables of tasks are lawful, and what holds of those.
use Rattle.std.specs.Prelude.{◌≡◌, ◌≢◌, ◌<◌, ◌≤◌, ◌+◌, ℕ, suc, List, [], ◌∷◌, ◌++◌, length, map, flat_map, IsPermutation, Bool, true, false, cond, ◌&&◌, ◌||◌, Option, Some, None, slice_get}
use Rattle.kt_law.specs.declared.limits.TheConstants.{DEPTH}
use Rattle.kt_order.specs.Books.{Book, BookOk, done_in}
use Rattle.kt_order.specs.Forest as order
use Rattle.kt_order.specs.Forest.{Task, fresh}
use Rattle.kt_order.specs.Paths.{same_path, IsThere}
use Rattle.kt_order.specs.Rest.{standing, left}
use Rattle.kt_order.specs.Shown.{fault_of}
use Rattle.kt_order.specs.Named.{Named, named, count_of, forks_in}
use Rattle.kt_prog.specs.Calls.{CallTree, Index}
use Rattle.kt_prog.specs.Script.{Fault}
use Rattle.kt_prog.specs.Accepted.{IsAccepted}
use Rattle.kt_prog.specs.Operations.{is_loop_at}
use Rattle.kt_prog.specs.Runs.{TaskRun, IndexRun, FaultRun}
use Rattle.kt_prog.specs.Objects.{inputs_of}
use Rattle.kt_prog.specs.Entries.{tasks_of, indexes_of, faults_of, fault_in}
use Rattle.kt_prog.specs.Outcome.{answered, outcome_of}
use Rattle.kt_prog.specs.Reference.{machine_of, main_placed, reference}
use Rattle.kt_prog.specs.declared.programs.Program.{Program}
use Rattle.kt_runs.specs.States.{Core, IsLawful, most_tasks}
use Rattle.kt_runs.specs.Theorems.{whole_at}
use Rattle.kt_tables.specs.Tables.{IndexRow, TaskRow, TaskTable, CoreState, no_loop, parent_of, is_child, is_finished, count_rows, count_indexes, opening_table, MainIsFinished}
use Rattle.kt_tables.specs.TableEvents.{CanAsk, is_looping, refusal, table_after}
use Rattle.kt_tables.specs.declared.events.Event.{Event}
use Rattle.kt_tables.specs.declared.events.Phase.{Phase}
use Rattle.kt_tables.specs.declared.events.Phase.TheVariants as P
use Rattle.kt_tables.specs.declared.events.Stand.{Stand}
use Rattle.kt_tables.specs.declared.events.Stand.TheVariants as S

-- the phase in the theory, where the body of a loop has ended once its indexes are there
abbrev pub phase_of : Phase → order.Phase
phase_of P.Unclaimed = order.Unclaimed
phase_of P.Running = order.Running
phase_of P.Looping = order.Ended
phase_of P.Ended = order.Ended
phase_of P.Finished = order.Finished

-- and that of an index, which is finished with its end
abbrev pub phase_of_stand : Stand → order.Phase
phase_of_stand S.Untaken = order.Unclaimed
phase_of_stand S.Taken = order.Running
phase_of_stand S.Over = order.Finished

abbrev pub index_phases : List IndexRow → List order.Phase
index_phases rows = map (λ (v : IndexRow). phase_of_stand v.stand) rows

abbrev pub book_of : TaskRow → Book
book_of r = record { pieces = r.loop.pieces; unretired = r.loop.unretired }

-- the task at a path
abbrev pub row_at : List TaskRow → List ℕ → Option TaskRow
row_at [] path = None
row_at (r ∷ rows) path = cond (same_path r.path path) (Some r) (row_at rows path)

abbrev pub last_of : List ℕ → ℕ
last_of [] = 0
last_of (k ∷ []) = k
last_of (k ∷ (j ∷ q)) = last_of (j ∷ q)

module _ (p : Program) where
  -- a loop whose indexes are there
  abbrev pub has_begun : TaskRow → Bool
  has_begun r = (is_looping r.phase || is_finished r.phase) && is_loop_at p r.call.task

  -- in the theory a loop that has begun has forked its indexes and done its end besides
  abbrev pub as_task : TaskRow → Task (machine_of p)
  as_task r =
      record { call = whole_at r.path r.call; phase = phase_of r.phase; answers = r.answers; done = r.done + cond (has_begun r) (suc r.call.length) 0 }

  abbrev pub as_index : TaskRow → ℕ → IndexRow → Task (machine_of p)
  as_index r i v = record { call = record { path = r.path; job = Index r.call i }; phase = phase_of_stand v.stand; answers = v.answers; done = v.done }

  -- where there is none, a fresh task stands for it
  abbrev pub index_or_fresh : TaskRow → ℕ → Option IndexRow → Task (machine_of p)
  index_or_fresh r i None = fresh (machine_of p) main_placed
  index_or_fresh r i (Some v) = as_index r i v

  abbrev pub index_of_row : TaskRow → ℕ → Task (machine_of p)
  index_of_row r i = index_or_fresh r i (slice_get r.loop.indexes i)

  abbrev pub child_or_fresh : ℕ → Option TaskRow → Task (machine_of p)
  child_or_fresh i None = fresh (machine_of p) main_placed
  child_or_fresh i (Some r) = index_of_row r i

  -- where no row has the path, it is that of an index of the row above it
  abbrev pub task_or_child : List TaskRow → List ℕ → Option TaskRow → Task (machine_of p)
  task_or_child tasks q None = child_or_fresh (last_of q) (row_at tasks (map suc (parent_of q)))
  task_or_child tasks q (Some r) = as_task r

  -- the theory counts the forks of a task from 0, and paths from 1
  abbrev pub tasks_by_path : List TaskRow → List ℕ → Task (machine_of p)
  tasks_by_path tasks q = task_or_child tasks q (row_at tasks (map suc q))

  abbrev pub by_path : TaskTable → Named (machine_of p)
  by_path x = record { get = tasks_by_path x.tasks; store = x.store }

  -- the state of the theory that a table shows; the indexes of a loop of the greatest depth are one deeper
  abbrev pub shown : TaskTable → Core p
  shown x = named (machine_of p) (suc DEPTH) (by_path x)

  -- the path, its numbers counted from 0, leads to a task of the state that the table shows
  abbrev pub Leads : List TaskRow → List ℕ → Type 0
  Leads tasks q = IsThere (suc DEPTH) (count_of (machine_of p) (tasks_by_path tasks)) q

  -- the fault with which a body stops once it has ended
  abbrev pub fault_left : Task (machine_of p) → Option Fault
  fault_left u = fault_of (machine_of p) (left (machine_of p) u)

  -- the fault with which the body of a task has ended
  abbrev pub shown_fault : TaskRow → Option Fault
  shown_fault r = ended_fault r.phase (fault_left (as_task r))
    where
      ended_fault : Phase → Option Fault → Option Fault
      ended_fault P.Ended f = f
      ended_fault P.Finished f = f
      ended_fault _ f = None

  -- and that of an index
  abbrev pub shown_index_fault : TaskRow → ℕ → IndexRow → Option Fault
  shown_index_fault r i v = ended_fault v.stand (fault_left (as_index r i v))
    where
      ended_fault : Stand → Option Fault → Option Fault
      ended_fault S.Over f = f
      ended_fault _ f = None

  -- those that have ended are those that are retired, and those that are not yet
  abbrev pub IsCounted : TaskRow → Type 0
  IsCounted r = r.loop.ended + length r.loop.indexes ≡ r.loop.unretired + done_in (index_phases r.loop.indexes)

  -- what the loop part of a row owes
  pub record LoopOk (r : TaskRow) : Type 0 where
    -- a loop that has begun has all its indexes, each that is not taken in one of its pieces, and no more retired than have ended
    pub begun : has_begun r ≡ true → (length r.loop.indexes ≡ r.call.length) × BookOk (book_of r) (index_phases r.loop.indexes) × IsCounted r
    -- no other task has any, and a loop that has not begun has no children in the theory either
    pub other : has_begun r ≡ false → r.loop ≡ no_loop
    pub zeroing : is_loop_at p r.call.task ≡ true → has_begun r ≡ false → forks_in (machine_of p) (standing (machine_of p) (as_task r)) ≡ []
    -- a loop alone loops, and its body does not end but by its beginning
    pub looping : r.phase ≡ P.Looping → is_loop_at p r.call.task ≡ true
    pub never_ended : is_loop_at p r.call.task ≡ true → r.phase ≢ P.Ended

  -- the path has a row, or is that of an index of a loop's row
  pub data Stands (tasks : List TaskRow) (q : List ℕ) : Type 0 where
    as_row : (t : ℕ) (r : TaskRow) → slice_get tasks t ≡ Some r → r.path ≡ map suc q → Stands tasks q
    as_child : (t : ℕ) (r : TaskRow) (home : List ℕ) (i : ℕ) (v : IndexRow) → slice_get tasks t ≡ Some r → r.path ≡ map suc home
        → q ≡ home ++ i ∷ [] → slice_get r.loop.indexes i ≡ Some v → Stands tasks q

  -- each path that the state has
  abbrev pub AllStand : List TaskRow → Type 0
  AllStand tasks = (q : List ℕ) → Leads tasks q → Stands tasks q

  -- the rows show a lawful state of the theory
  pub record ShowsLawful (input : List ℕ) (x : TaskTable) : Type 0 where
    pub lawful : IsLawful p input (shown x)
    -- the table has one task for a path that the state has, and no others
    pub there : (t : ℕ) (r : TaskRow) → slice_get x.tasks t ≡ Some r → (q : List ℕ) × (r.path ≡ map suc q) × Leads x.tasks q
    pub once : (t u : ℕ) (r s : TaskRow) → slice_get x.tasks t ≡ Some r → slice_get x.tasks u ≡ Some s → r.path ≡ s.path → t ≡ u
    pub deep : (t : ℕ) (r : TaskRow) → slice_get x.tasks t ≡ Some r → r.call.depth ≡ length r.path
    -- only its indexes stand below a loop, and they have no rows of their own
    pub childless : (t : ℕ) (r : TaskRow) → slice_get x.tasks t ≡ Some r → is_loop_at p r.call.task ≡ true
        → (u : ℕ) (s : TaskRow) → slice_get x.tasks u ≡ Some s → is_child r.path s.path ≡ false
    pub loops : (t : ℕ) (r : TaskRow) → slice_get x.tasks t ≡ Some r → LoopOk r

  pub record IsLawfulTable (input : List ℕ) (x : TaskTable) : Type 0 where
    pub rows : ShowsLawful input x
    -- the table has each task and each index that the state has
    pub all : AllStand x.tasks
    -- main is the first, and the children of one task stand in the order of their forks
    pub main : (r : TaskRow) → slice_get x.tasks 0 ≡ Some r → r.path ≡ []
    pub order : (t u : ℕ) (r s : TaskRow) → slice_get x.tasks t ≡ Some r → slice_get x.tasks u ≡ Some s
        → (path : List ℕ) (i j : ℕ) → r.path ≡ path ++ i ∷ [] → s.path ≡ path ++ j ∷ [] → i < j → t < u
    -- a task but a loop that has begun has as many children as it has forked
    pub counts : (t : ℕ) (r : TaskRow) → slice_get x.tasks t ≡ Some r → has_begun r ≡ false
        → count_rows (λ (u : TaskRow). is_child r.path u.path) x.tasks ≡ length (forks_in (machine_of p) (standing (machine_of p) (as_task r)))
    pub faults : (t : ℕ) (r : TaskRow) → slice_get x.tasks t ≡ Some r → r.fault ≡ shown_fault r
    pub index_faults : (t : ℕ) (r : TaskRow) → slice_get x.tasks t ≡ Some r → (i : ℕ) (v : IndexRow) → slice_get r.loop.indexes i ≡ Some v
        → v.fault ≡ shown_index_fault r i v

  -- the tasks with what their loads found
  abbrev pub runs_in : List TaskRow → List TaskRun
  runs_in tasks = map (λ (r : TaskRow). record { path = r.path; call = r.call; answers = r.answers }) tasks

  -- the indexes with what theirs found, from this one on
  abbrev pub index_runs_from : List ℕ → ℕ → List IndexRow → List IndexRun
  index_runs_from path i [] = []
  index_runs_from path i (v ∷ rows) = record { path = path; index = i; answers = v.answers } ∷ index_runs_from path (suc i) rows

  abbrev pub index_runs_in : List TaskRow → List IndexRun
  index_runs_in tasks = flat_map (λ (r : TaskRow). index_runs_from r.path 0 r.loop.indexes) tasks

  abbrev pub index_faults_from : List ℕ → CallTree → ℕ → List IndexRow → List FaultRun
  index_faults_from path call i [] = []
  index_faults_from path call i (v ∷ rows) = fault_in (record { path = path; job = Index call i }) v.fault ++ index_faults_from path call (suc i) rows

  -- the faults of the tasks and of the indexes
  abbrev pub faults_at : TaskRow → List FaultRun
  faults_at r = fault_in (whole_at r.path r.call) r.fault ++ index_faults_from r.path r.call 0 r.loop.indexes

  abbrev pub faults_in : List TaskRow → List FaultRun
  faults_in tasks = flat_map faults_at tasks

  -- the table has what the reference run has
  pub record TableGivesReference (input : List ℕ) (x : TaskTable) : Type 0 where
    pub store : x.store ≡ (reference p input).store
    pub tasks : IsPermutation (runs_in x.tasks) (tasks_of p (reference p input).entries)
    pub indexes : IsPermutation (index_runs_in x.tasks) (indexes_of p (reference p input).entries)
    pub faults : IsPermutation (faults_in x.tasks) (faults_of p (reference p input).entries)
    pub outcome : answered (length x.tasks) (count_indexes x.tasks) (faults_in x.tasks) x.store ≡ outcome_of p input

-- a run begins lawfully
abbrev pub OpeningTableIsLawful : Type 0
OpeningTableIsLawful = (p : Program) (input : List ℕ) → IsAccepted p → IsLawfulTable p input (opening_table p input)

-- an event that nothing refuses leaves a lawful table lawful
abbrev pub EventsKeepTablesLawful : Type 0
EventsKeepTablesLawful = (p : Program) (input : List ℕ) → IsAccepted p → (e : Event) (x : TaskTable) → CanAsk p e x
    → refusal e x ≡ None → IsLawfulTable p input x → IsLawfulTable p input (table_after p e x)

-- a lawful table with main finished has what the reference run has
abbrev pub DoneTableIsReference : Type 0
DoneTableIsReference = (p : Program) (input : List ℕ) → IsAccepted p → (x : TaskTable) → IsLawfulTable p input x
    → MainIsFinished x.tasks → TableGivesReference p input x

-- a lawful table has no more tasks and no more indexes than the reference run
abbrev pub TablesHaveNoMore : Type 0
TablesHaveNoMore = (p : Program) (input : List ℕ) → IsAccepted p → (x : TaskTable) → IsLawfulTable p input x
    → (length x.tasks ≤ length (tasks_of p (reference p input).entries)) × (count_indexes x.tasks ≤ length (indexes_of p (reference p input).entries))

-- while main is not finished and there is room, some event can be asked for and is not refused
abbrev pub SomeTableEventGoes : Type 0
SomeTableEventGoes = (p : Program) (input : List ℕ) → IsAccepted p → (x : TaskTable) → IsLawfulTable p input x
    → length x.tasks < most_tasks → (MainIsFinished x.tasks → ⊥) → (e : Event) × CanAsk p e x × (refusal e x ≡ None)

-- every core: its program is accepted, its input is what the program wants, and its table is lawful
pub record IsLawfulState (c : CoreState) : Type 0 where
  pub accepted : IsAccepted c.program
  pub input : length c.input ≡ inputs_of c.program.families
  pub table : ∥ IsLawfulTable c.program c.input c.table ∥₁
