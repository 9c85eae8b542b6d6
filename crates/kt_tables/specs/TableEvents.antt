-- The events of a table of tasks: what their callers know, why one cannot be done, and what it does.
use Rattle.std.specs.Prelude.{◌≡◌, ℕ, suc, ◌<◌, List, [], ◌∷◌, ◌++◌, length, Bool, true, false, cond, Option, Some, None, ◌||◌, ◌&&◌, not, nat_lt, slice_get, slice_set, option_map, Result, Ok, Err}
use Rattle.kt_law.specs.Acts.{Load, Store, Fold}
use Rattle.kt_prog.specs.Calls.{Whole, Index}
use Rattle.kt_prog.specs.Store.{after, answer}
use Rattle.kt_prog.specs.Operations.{heard, is_loop_at, IsNext}
use Rattle.kt_prog.specs.declared.programs.Program.{Program}
use Rattle.kt_prog.specs.declared.runs.Operation.{Operation}
use Rattle.kt_prog.specs.declared.runs.Operation.TheVariants as O
use Rattle.kt_runs.specs.States.{most_tasks}
use Rattle.kt_tables.specs.LoopRows.{has_inside, can_take, is_under_way, row_begun, row_split, row_taken, row_indexed, row_retired}
use Rattle.kt_tables.specs.Tables.{IndexRow, TaskRow, TaskTable, CoreState, fresh_row, open_before, clash_before, open_child, next_child}
use Rattle.kt_tables.specs.declared.events.Event.{Event}
use Rattle.kt_tables.specs.declared.events.Event.TheVariants as E
use Rattle.kt_tables.specs.declared.events.Phase.{Phase}
use Rattle.kt_tables.specs.declared.events.Phase.TheVariants as P
use Rattle.kt_tables.specs.declared.events.Stand.TheVariants as S
use Rattle.kt_tables.specs.declared.events.Why.{Why}
use Rattle.kt_tables.specs.declared.events.Why.TheVariants as W

-- the number of the task that does it
abbrev pub task_of : Event → ℕ
task_of (E.ClaimInOrder t) = t
task_of (E.ClaimReady t) = t
task_of (E.Body t operation) = t
task_of (E.Begin t) = t
task_of (E.Split t at) = t
task_of (E.Take t at n) = t
task_of (E.Index t i operation) = t
task_of (E.Retire t n) = t
task_of (E.Finish t) = t

-- a load finds what the store has
abbrev pub Finds : Program → List ℕ → Operation → Type 0
Finds p store (O.Load object element a) = a ≡ answer p.families (record { object = object; element = element; deed = Load }) store
Finds p store _ = Unit {0}

-- a fork has room for its task
abbrev pub FindsRoom : List TaskRow → Operation → Type 0
FindsRoom tasks (O.Fork call) = length tasks < most_tasks
FindsRoom tasks _ = Unit {0}

-- the operation is the next one of the task's body
pub record IsDue (p : Program) (operation : Operation) (r : TaskRow) (x : TaskTable) : Type 0 where
  pub next : IsNext p (Whole r.call) r.answers r.done operation
  pub finds : Finds p x.store operation
  pub room : FindsRoom x.tasks operation

-- the operation is the next one of the body of this index
pub record IsIndexDue (p : Program) (i : ℕ) (operation : Operation) (v : IndexRow) (r : TaskRow) (x : TaskTable) : Type 0 where
  pub next : IsNext p (Index r.call i) v.answers v.done operation
  pub finds : Finds p x.store operation

-- no operation of the call is next: the zeroing of a loop that runs is done
abbrev pub NothingIsNext : Program → TaskRow → Type 0
NothingIsNext p r = (operation : Operation) → IsNext p (Whole r.call) r.answers r.done operation → ⊥

-- what the caller knows of the task of an event: an operation is given only as the next one of a body that runs, and a loop alone
-- begins, once its zeroing is done
abbrev pub Suits : Program → Event → TaskRow → TaskTable → Type 0
Suits p (E.Body t operation) r x = r.phase ≡ P.Running → IsDue p operation r x
Suits p (E.Begin t) r x = (is_loop_at p r.call.task ≡ true) × (r.phase ≡ P.Running → NothingIsNext p r)
Suits p (E.Index t i operation) r x =
    r.phase ≡ P.Looping → (v : IndexRow) → slice_get r.loop.indexes i ≡ Some v → v.stand ≡ S.Taken → IsIndexDue p i operation v r x
Suits p _ r x = Unit {0}

pub record CanAsk (p : Program) (e : Event) (x : TaskTable) : Type 0 where
  pub there : task_of e < length x.tasks
  pub suits : (r : TaskRow) → slice_get x.tasks (task_of e) ≡ Some r → Suits p e r x

abbrev pub is_unclaimed : Phase → Bool
is_unclaimed P.Unclaimed = true
is_unclaimed _ = false

abbrev pub is_running : Phase → Bool
is_running P.Running = true
is_running _ = false

abbrev pub is_looping : Phase → Bool
is_looping P.Looping = true
is_looping _ = false

abbrev pub is_ended : Phase → Bool
is_ended P.Ended = true
is_ended _ = false

-- a phase that passes the test is wanted, and then the rest decides
abbrev pub wants : (Phase → Bool) → Phase → Option Why → Option Why
wants test phase rest = cond (test phase) rest (Some (W.Found phase))

abbrev pub unless : Bool → Why → Option Why
unless can why = cond can None (Some why)

-- the first of two causes that stands
abbrev pub or_else : Option Why → Option Why → Option Why
or_else None other = other
or_else (Some why) other = Some why

-- why the event of task r cannot be done, None where it can
abbrev pub refusal_of : Event → TaskRow → List TaskRow → Option Why
refusal_of (E.ClaimInOrder t) r tasks = wants is_unclaimed r.phase (option_map W.Earlier (open_before t r tasks))
refusal_of (E.ClaimReady t) r tasks = wants is_unclaimed r.phase (option_map W.Clash (clash_before t r tasks))
refusal_of (E.Body t operation) r tasks = wants is_running r.phase None
refusal_of (E.Begin t) r tasks = wants is_running r.phase None
refusal_of (E.Split t at) r tasks = wants is_looping r.phase (unless (has_inside at r.loop.pieces) W.NoPiece)
refusal_of (E.Take t at n) r tasks = wants is_looping r.phase (unless (nat_lt 0 n && can_take at n r.loop.pieces) W.NoPiece)
refusal_of (E.Index t i operation) r tasks = wants is_looping r.phase (unless (is_under_way (slice_get r.loop.indexes i)) (W.NotTaken i))
refusal_of (E.Retire t n) r tasks = wants is_looping r.phase (unless (nat_lt 0 n && not (nat_lt r.loop.ended n)) (W.NotEnded r.loop.ended))
refusal_of (E.Finish t) r tasks =
    wants (λ ph. is_ended ph || is_looping ph) r.phase
    (or_else (option_map W.Child (open_child r tasks)) (unless (not (nat_lt 0 r.loop.unretired)) (W.Left r.loop.unretired)))

abbrev pub refusal_at : Event → Option TaskRow → List TaskRow → Option Why
refusal_at e None tasks = None
refusal_at e (Some r) tasks = refusal_of e r tasks

abbrev pub refusal : Event → TaskTable → Option Why
refusal e x = refusal_at e (slice_get x.tasks (task_of e)) x.tasks

abbrev pub in_phase : Phase → TaskRow → TaskRow
in_phase phase r = record { path = r.path; call = r.call; phase = phase; answers = r.answers; done = r.done; fault = r.fault; loop = r.loop }

-- one operation more, with what it heard
abbrev pub went_on : List ℕ → TaskRow → TaskRow
went_on answers r = record { path = r.path; call = r.call; phase = r.phase; answers = r.answers ++ answers; done = suc r.done; fault = r.fault; loop = r.loop }

abbrev pub row_after : Operation → TaskRow → TaskRow
row_after O.End r = in_phase P.Ended (went_on [] r)
row_after (O.Fault law line) r =
    record { path = r.path; call = r.call; phase = P.Ended; answers = r.answers; done = suc r.done; fault = Some (record { law = law; line = line }); loop = r.loop }
row_after operation r = went_on (heard operation) r

abbrev pub store_after : Program → Operation → List ℕ → List ℕ
store_after p (O.Store object element v) store = after p.families (record { object = object; element = element; deed = Store v }) store
store_after p (O.Fold object element op v) store = after p.families (record { object = object; element = element; deed = Fold op v }) store
store_after p _ store = store

-- the task that the operation adds
abbrev pub added_by : Operation → TaskRow → List TaskRow → List TaskRow
added_by (O.Fork call) r tasks = fresh_row (next_child r tasks) call ∷ []
added_by _ r tasks = []

abbrev pub with_row : ℕ → TaskRow → TaskTable → TaskTable
with_row t r x = record { store = x.store; tasks = slice_set x.tasks t r }

-- what the event of task r does
abbrev pub after_of : Program → Event → TaskRow → TaskTable → TaskTable
after_of p (E.ClaimInOrder t) r x = with_row t (in_phase P.Running r) x
after_of p (E.ClaimReady t) r x = with_row t (in_phase P.Running r) x
after_of p (E.Body t operation) r x =
    record { store = store_after p operation x.store; tasks = slice_set x.tasks t (row_after operation r) ++ added_by operation r x.tasks }
after_of p (E.Begin t) r x = with_row t (row_begun r) x
after_of p (E.Split t at) r x = with_row t (row_split at r) x
after_of p (E.Take t at n) r x = with_row t (row_taken at n r) x
after_of p (E.Index t i operation) r x = record { store = store_after p operation x.store; tasks = slice_set x.tasks t (row_indexed i operation r) }
after_of p (E.Retire t n) r x = with_row t (row_retired n r) x
after_of p (E.Finish t) r x = with_row t (in_phase P.Finished r) x

abbrev pub after_at : Program → Event → Option TaskRow → TaskTable → TaskTable
after_at p e None x = x
after_at p e (Some r) x = after_of p e r x

abbrev pub table_after : Program → Event → TaskTable → TaskTable
table_after p e x = after_at p e (slice_get x.tasks (task_of e)) x

abbrev pub state_after : Event → CoreState → CoreState
state_after e c = record { program = c.program; input = c.input; table = table_after c.program e c.table }

-- the answer to an event that is refused so, or not at all; there may also be no memory for one that is not refused
abbrev pub Replies : Option Why → Result (Unit {0}) Why → Type 0
Replies refused (Ok done) = refused ≡ None
Replies refused (Err W.NoMemory) = refused ≡ None
Replies refused (Err why) = refused ≡ Some why
