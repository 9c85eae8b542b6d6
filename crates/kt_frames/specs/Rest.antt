-- What is left of a run where the frames stand so, and the answer that the run comes to.
use Rattle.std.specs.Prelude.{◌≡◌, ◌≤◌, ◌<◌, ℕ, suc, ◌+◌, ◌-◌, false, List, [], ◌∷◌, length, drop, Option, Some, None}
use Rattle.kt_law.specs.declared.limits.TheConstants.{INDEXES, TASKS}
use Rattle.kt_order.specs.Machine.{Machine}
use Rattle.kt_order.specs.Sequential.{Run, each, joined, still_at, whole}
use Rattle.kt_prog.specs.Calls.{CallTree, Whole}
use Rattle.kt_prog.specs.Script.{Fault}
use Rattle.kt_prog.specs.Fits.{Fits}
use Rattle.kt_prog.specs.Entries.{tasks_of, indexes_of, faults_of}
use Rattle.kt_faults.specs.First.{earlier}
use Rattle.kt_prog.specs.Outcome.{answered, fault_or_rows}
use Rattle.kt_prog.specs.Runs.{FaultRun}
use Rattle.kt_prog.specs.Reference.{Placed, machine_of}
use Rattle.kt_prog.specs.declared.programs.Program.{Program}
use Rattle.kt_prog.specs.declared.runs.Ran.{Ran}
use Rattle.kt_prog.specs.declared.runs.Outcome.TheVariants as O
use Rattle.kt_body.specs.declared.ops.Ended.{Ended}
use Rattle.kt_body.specs.declared.ops.Ended.TheVariants as E
use Rattle.kt_frames.specs.Stack.{Frame, Stack, begun, entry_path, finished_top, next_of, IsRunning}
use Rattle.kt_frames.specs.declared.owner.Owner.{Owner}
use Rattle.kt_frames.specs.declared.turn.Turn.{Turn}
use Rattle.kt_frames.specs.declared.turn.Turn.TheVariants as T

abbrev pub EachCall : (CallTree → Type 0) → List CallTree → Type 0
EachCall G [] = Unit {0}
EachCall G (c ∷ cs) = G c × EachCall G cs

-- entries of the frame over these, the first one its n-th
abbrev pub placed_from : List Frame → ℕ → List CallTree → List Placed
placed_from below n [] = []
placed_from below n (c ∷ cs) = record { path = entry_path below n; job = Whole c } ∷ placed_from below (suc n) cs

-- a call of a path of this length
abbrev pub IsCallAt : Program → ℕ → CallTree → Type 0
IsCallAt p depth c = Fits p c × (c.depth ≡ depth)

abbrev pub GoodBelow : Program → List Frame → Type 0
GoodBelow p [] = Unit {0}
GoodBelow p (f ∷ below) = EachCall (IsCallAt p (length below)) f.calls × (f.finished < length f.calls) × GoodBelow p below

pub record GoodStack (p : Program) (s : Stack) : Type 0 where
  pub top : EachCall (IsCallAt p (length s.below)) s.top.calls
  pub below : GoodBelow p s.below

-- the entries that wait
abbrev pub waiting_below : List Frame → ℕ
waiting_below [] = 0
waiting_below (f ∷ below) = (length f.calls - suc f.finished) + waiting_below below

abbrev pub waiting : Stack → ℕ
waiting s = (length s.top.calls - s.top.finished) + waiting_below s.below

module _ (p : Program) where
  abbrev m : Machine
  m = machine_of p

  abbrev pub run_all : List Placed → List ℕ → Run m
  run_all = each m (whole m)

  -- the entries of a frame from one on
  abbrev pub rest_at : List Frame → ℕ → List CallTree → List ℕ → Run m
  rest_at below n calls = run_all (placed_from below (suc n) (drop n calls))

  abbrev pub rest_below : List Frame → List ℕ → Run m
  rest_below [] s = still_at m s
  rest_below (f ∷ below) s = let x = rest_at below (suc f.finished) f.calls s in joined m x (rest_below below x.store)

  -- the entries that wait, from the topmost frame down, each with all that it forks
  abbrev pub rest_of : Stack → List ℕ → Run m
  rest_of st s = let x = rest_at st.below st.top.finished st.top.calls s in joined m x (rest_below st.below x.store)

abbrev pub with_least : Option FaultRun → List FaultRun → List FaultRun
with_least None faults = faults
with_least (Some f) faults = f ∷ faults

-- with the fault of a body, if it had one
abbrev pub least_with : Option FaultRun → List ℕ → Option ℕ → Option Fault → Option FaultRun
least_with least path index None = least
least_with least path index (Some f) = earlier least (Some (record { path = path; index = index; fault = f.law; line = f.line }))

module _ (p : Program) where
  -- the answer where so many tasks and indexes were run, this is the least of their faults, and this run is left
  abbrev pub answered_from : Option FaultRun → ℕ → ℕ → Run (machine_of p) → Ran
  answered_from least ran indexes r =
      answered (ran + length (tasks_of p r.entries)) (indexes + length (indexes_of p r.entries)) (with_least least (faults_of p r.entries)) r.store

abbrev pub fault_of : Ended → Option Fault
fault_of E.Done = None
fault_of (E.Fault law line) = Some (record { law = law; line = line })
fault_of E.Halted = None

-- the owner stands between two calls of a run of this program, which kept the limits so far
pub record IsLive (p : Program) (o : Owner) : Type 0 where
  pub program : o.store.program ≡ p
  pub good : GoodStack p o.frames
  pub kept : o.over ≡ false
  pub room : o.frames.room ≡ TASKS
  pub few : o.frames.tasks ≤ o.frames.room
  pub counted : waiting o.frames ≤ o.frames.tasks
  pub few_indexes : o.indexes ≤ INDEXES

-- what the run comes to from here
abbrev pub left : Program → Owner → Option FaultRun → Ran
left p o least = answered_from p least (o.frames.tasks - waiting o.frames) o.indexes (rest_of p o.frames o.store.elements)

-- how many calls there may be yet, and those that wait
abbrev pub to_do : Owner → ℕ
to_do o = (o.frames.room - o.frames.tasks) + waiting o.frames

abbrev pub limit_ran : Ran
limit_ran = record { outcome = O.Limit; tasks = 0; indexes = 0 }

abbrev pub ended_ran : Owner → Option FaultRun → Ran
ended_ran o least = record { outcome = fault_or_rows o.store.elements (with_least least []); tasks = o.frames.tasks; indexes = o.indexes }

-- the next call was run, and how the run stands then; or there is none more, or there were too many
abbrev pub TurnIs : Program → Owner → Option FaultRun → Owner → Option FaultRun → Turn → Type 0
TurnIs p old before new after T.Ran = IsLive p new × (left p new after ≡ left p old before) × (to_do new < to_do old)
TurnIs p old before new after T.Ended = (left p old before ≡ ended_ran new after) × (new.store.program ≡ p)
TurnIs p old before new after T.Over = left p old before ≡ limit_ran

-- tasks that had no entry left were finished, one after another
pub data Finishes : Stack → Stack → Type 0 where
  stays : {s : Stack} → Finishes s s
  more : {s t : Stack} → Finishes s t → IsRunning t → next_of t ≡ None → Finishes s (finished_top t)

-- then the first entry that waits was claimed, or there is none
abbrev pub Claims : Stack → Stack → Option CallTree → Type 0
Claims old new None = Finishes old new × (next_of new ≡ None) × (new.below ≡ [])
Claims old new (Some call) = (t : Stack) × Finishes old t × (next_of t ≡ Some call) × (new ≡ begun t)

abbrev pub with_frames : Owner → Stack → Owner
with_frames o s = record { store = o.store; frames = s; over = o.over; indexes = o.indexes }

-- the owner is live but for the call of this stack that it has just claimed
pub record IsClaimed (p : Program) (o : Owner) (s : Stack) (call : CallTree) : Type 0 where
  pub frames : o.frames ≡ begun s
  pub next : next_of s ≡ Some call
  pub live : IsLive p (with_frames o s)
