-- A run by events of its core: what holds of it between two bodies and within one, and what each part of it changes.
use Rattle.std.specs.Prelude.{◌≡◌, ◌≢◌, ◌≤◌, ◌<◌, ◌+◌, ◌⊎◌, ℕ, List, [], ◌∷◌, length, Bool, true, false, Option, Some, None, Result, Ok, Err, slice_get}
use Rattle.kt_law.specs.declared.limits.TheConstants.{INDEXES, TASKS}
use Rattle.kt_prog.specs.Calls.{CallTree, Job, Whole, Index}
use Rattle.kt_prog.specs.Fits.{Fits}
use Rattle.kt_prog.specs.Objects.{elements_of}
use Rattle.kt_prog.specs.declared.programs.Program.{Program}
use Rattle.kt_prog.specs.Operations.{IsNext, is_loop_at}
use Rattle.kt_prog.specs.declared.runs.Operation.{Operation}
use Rattle.kt_prog.specs.declared.runs.Operation.TheVariants as O
use Rattle.kt_body.specs.declared.ops.Ended.{Ended}
use Rattle.kt_body.specs.declared.ops.Ended.TheVariants as D
use Rattle.kt_tables.specs.Tables.{IndexRow, TaskRow, CoreState, count_indexes}
use Rattle.kt_tables.specs.TableEvents.{Finds}
use Rattle.kt_tables.specs.declared.events.Event.{Event}
use Rattle.kt_tables.specs.declared.events.Event.TheVariants as E
use Rattle.kt_tables.specs.declared.events.Phase.{Phase}
use Rattle.kt_tables.specs.declared.events.Phase.TheVariants as P
use Rattle.kt_tables.specs.declared.events.Stand.{Stand}
use Rattle.kt_tables.specs.declared.events.Stand.TheVariants as I
use Rattle.kt_sim.specs.Left.{left_in}
use Rattle.kt_sim.specs.declared.operations.Simulation.{Simulation}
use Rattle.kt_sim.specs.declared.operations.Stop.{Stop}
use Rattle.kt_sim.specs.declared.operations.Stop.TheVariants as S

-- P holds of each task and its number
abbrev pub EachRow : (ℕ → TaskRow → Type 0) → List TaskRow → Type 0
EachRow P tasks = (t : ℕ) (r : TaskRow) → slice_get tasks t ≡ Some r → P t r

abbrev pub is_before_end : Phase → Bool
is_before_end P.Unclaimed = true
is_before_end P.Running = true
is_before_end _ = false

-- before the end of its body the task has done nothing
abbrev pub IsStill : TaskRow → Type 0
IsStill r = is_before_end r.phase ≡ true → (r.answers ≡ []) × (r.done ≡ 0)

abbrev pub is_over : Stand → Bool
is_over I.Over = true
is_over _ = false

-- and so has the index
abbrev pub IsQuiet : IndexRow → Type 0
IsQuiet v = is_over v.stand ≡ false → (v.answers ≡ []) × (v.done ≡ 0)

abbrev pub AreQuiet : List IndexRow → Type 0
AreQuiet rows = (i : ℕ) (v : IndexRow) → slice_get rows i ≡ Some v → IsQuiet v

-- all calls are those that there may be, and the store has all elements
pub record IsSound (c : CoreState) : Type 0 where
  pub calls : EachRow (λ t r. Fits c.program r.call) c.table.tasks
  pub full : length c.table.store ≡ elements_of c.program.families

-- there are no more tasks and indexes than the limits allow
pub record IsFew (c : CoreState) : Type 0 where
  pub tasks : length c.table.tasks ≤ TASKS
  pub indexes : count_indexes c.table.tasks ≤ INDEXES

-- no body is under way, though tasks may be claimed and indexes taken
pub record IsCalm (c : CoreState) : Type 0 where
  pub sound : IsSound c
  pub still : EachRow (λ t r. IsStill r) c.table.tasks
  pub quiet : EachRow (λ t r. AreQuiet r.loop.indexes) c.table.tasks
  pub few : IsFew c

-- the second state may come after the first in one run
pub record Follows (x y : CoreState) : Type 0 where
  pub program : y.program ≡ x.program
  pub input : y.input ≡ x.input
  pub more : length x.table.tasks ≤ length y.table.tasks
  pub further : left_in y ≤ left_in x

-- there are more tasks or indexes than the limits allow
abbrev pub IsOver : CoreState → Type 0
IsOver c = (TASKS < length c.table.tasks) ⊎ (INDEXES < count_indexes c.table.tasks)

-- the body of task t goes: it stands behind so many operations, whose loads found these numbers
pub record Goes (c : CoreState) (t : ℕ) (job : Job) (answers : List ℕ) (count : ℕ) : Type 0 where
  pub sound : IsSound c
  pub still : EachRow (λ k r. k ≢ t → IsStill r) c.table.tasks
  pub quiet : EachRow (λ k r. AreQuiet r.loop.indexes) c.table.tasks
  pub few : IsFew c
  pub row : TaskRow
  pub there : slice_get c.table.tasks t ≡ Some row
  pub running : row.phase ≡ P.Running
  pub job_is : job ≡ Whole row.call
  pub answers_are : row.answers ≡ answers
  pub count_is : row.done ≡ count

-- the body of index i of task t goes
pub record IndexGoes (c : CoreState) (t i : ℕ) (job : Job) (answers : List ℕ) (count : ℕ) : Type 0 where
  pub sound : IsSound c
  pub still : EachRow (λ k r. IsStill r) c.table.tasks
  pub quiet : EachRow (λ k r. k ≢ t → AreQuiet r.loop.indexes) c.table.tasks
  pub few : IsFew c
  pub row : TaskRow
  pub there : slice_get c.table.tasks t ≡ Some row
  pub looping : row.phase ≡ P.Looping
  pub others : (j : ℕ) (v : IndexRow) → slice_get row.loop.indexes j ≡ Some v → j ≢ i → IsQuiet v
  pub one : IndexRow
  pub inside : slice_get row.loop.indexes i ≡ Some one
  pub taken : one.stand ≡ I.Taken
  pub job_is : job ≡ Index row.call i
  pub answers_are : one.answers ≡ answers
  pub count_is : one.done ≡ count

-- of a task, or of an index of it
abbrev pub BodyGoes : Option ℕ → CoreState → ℕ → Job → List ℕ → ℕ → Type 0
BodyGoes None c t job answers count = Goes c t job answers count
BodyGoes (Some i) c t job answers count = IndexGoes c t i job answers count

abbrev pub GoesOrNot : Option Stop → Option ℕ → CoreState → ℕ → Job → List ℕ → ℕ → Type 0
GoesOrNot None index c t job answers count = BodyGoes index c t job answers count
GoesOrNot (Some S.Over) index c t job answers count = IsOver c
GoesOrNot (Some S.NoMemory) index c t job answers count = Unit {0}

-- an operation of the body of a task, or of an index of it
abbrev pub event_of : Option ℕ → ℕ → Operation → Event
event_of None t operation = E.Body t operation
event_of (Some i) t operation = E.Index t i operation

pub record At (s : Simulation) (p : Program) (job : Job) (answers : List ℕ) (count : ℕ) : Type 0 where
  pub program : s.core.program ≡ p
  pub stands : GoesOrNot s.stop s.index s.core s.task job answers count

-- the number beside the core is that of all its indexes
abbrev pub IsCounted : Simulation → Type 0
IsCounted s = count_indexes s.core.table.tasks ≡ s.indexes

-- the body is that of an index
abbrev pub IsOfIndex : Simulation → Type 0
IsOfIndex s = s.index ≢ None

-- there are as many tasks as before
abbrev pub IsAsLong : Simulation → Simulation → Type 0
IsAsLong x y = length y.core.table.tasks ≡ length x.core.table.tasks

pub record Moves (x : Simulation) (operation : Operation) (y : Simulation) : Type 0 where
  pub index : y.index ≡ x.index
  pub follows : Follows x.core y.core
  pub counted : IsCounted x → IsCounted y
  pub long : IsOfIndex x → IsAsLong x y

abbrev pub IsOut : Simulation → Type 0
IsOut s = s.stop ≡ Some S.NoMemory

-- a load finds what the store has
abbrev pub IsFound : Simulation → Operation → Type 0
IsFound s operation = Finds s.core.program s.core.table.store operation

-- the first state, and the last one where the body has ended, or why not
abbrev pub GoesOn : CoreState → CoreState → Result (Unit {0}) Stop → Type 0
GoesOn x y (Ok done) = IsCalm y × Follows x y × (left_in y < left_in x)
GoesOn x y (Err S.Over) = Follows x y × IsOver y
GoesOn x y (Err S.NoMemory) = Unit {0}

abbrev pub IsInPhase : Phase → ℕ → CoreState → Type 0
IsInPhase phase t c = (r : TaskRow) × (slice_get c.table.tasks t ≡ Some r) × (r.phase ≡ phase)

-- an index of a loop whose body has not begun
pub record IsTaken (t i : ℕ) (c : CoreState) : Type 0 where
  pub row : TaskRow
  pub there : slice_get c.table.tasks t ≡ Some row
  pub looping : row.phase ≡ P.Looping
  pub one : IndexRow
  pub inside : slice_get row.loop.indexes i ≡ Some one
  pub taken : one.stand ≡ I.Taken

-- it ends a body
abbrev pub IsEnd : Operation → Type 0
IsEnd O.End = Unit {0}
IsEnd (O.Fault law line) = Unit {0}
IsEnd _ = ⊥

-- the operation is next in the body that goes
pub record IsLast (s : Simulation) (operation : Operation) : Type 0 where
  pub job : Job
  pub answers : List ℕ
  pub count : ℕ
  pub goes : BodyGoes s.index s.core s.task job answers count
  pub next : IsNext s.core.program job answers count operation

-- the body has done all but its end, which is this one
abbrev pub EndsWith : Simulation → Ended → Type 0
EndsWith s D.Done = IsLast s O.End
EndsWith s (D.Fault law line) = IsLast s (O.Fault law line)
EndsWith s D.Halted = ⊥

-- the zeroing of a loop is done, and nothing else is next
pub record HasZeroed (s : Simulation) : Type 0 where
  pub call : CallTree
  pub answers : List ℕ
  pub count : ℕ
  pub goes : Goes s.core s.task (Whole call) answers count
  pub loop : is_loop_at s.core.program call.task ≡ true
  pub done : (operation : Operation) → IsNext s.core.program (Whole call) answers count operation → ⊥
