-- Where each task lies and how it stands, and the core that this is.
--
-- A task is claimed by one exchange of its state word, and from then on it is in one hand after another. A task that is
-- claimed for a thief is promised by the seat that claimed it, then posted in the thief's post word, then given to the
-- thief; its state word is the same all the time.
use Rattle.std.specs.Prelude.{◌≡◌, ℕ, suc, ◌⊎◌, Bool, true, false, List, [], map, length}
use mathlib.Core.Option.{Option, none, some}
use lib.ListN.{get_elem?}
use Rattle.kt_law.specs.declared.stands.Stand.{Stand}
use Rattle.kt_law.specs.declared.stands.Stand.TheVariants as S
use Rattle.kt_order.specs.Books.{Piece}
use Rattle.kt_order.specs.Forest.{Phase, Task, Unclaimed, Running, Ended, Finished, fresh}
use Rattle.kt_order.specs.Rest.{standing}
use Rattle.kt_order.specs.Paths.{IsThere}
use Rattle.kt_order.specs.Named.{Named, named, count_of, forks_in}
use Rattle.kt_prog.specs.Calls.{CallTree, Index}
use Rattle.kt_prog.specs.Reference.{machine_of, main_placed}
use Rattle.kt_runs.specs.States.{IsLawful}
use Rattle.kt_runs.specs.Theorems.{whole_at}
use Rattle.kt_runs.specs.ByPath.{Path, child, levels}
use Rattle.kt_rule.specs.Paths.{parent_of, number_of}
use Rattle.kt_rule.specs.declared.views.Setup.{Setup}
use Rattle.kt_rule.specs.declared.views.Berth.{Berth}

-- how a task stands; each number is a worker
pub data Stage : Type 0 where
  Waits : Stage
  -- the thief for whom it was claimed, by a seat that has it in hand
  Promised : ℕ → Stage
  -- the thief in whose post word it stands
  Posted : ℕ → Stage
  -- the thief that has it in hand
  Given : ℕ → Stage
  Runs : ℕ → Stage
  -- a loop whose indexes have begun
  Loops : ℕ → Stage
  Done : Stage
  -- it is finished, and its record may be another task's
  Gone : Stage

-- the index of a loop that has begun
pub record IndexLie : Type 0 where
  pub phase : Phase
  pub answers : List ℕ
  pub count : ℕ

-- a task that lies in a record
pub record Lie : Type 0 where
  pub berth : Berth
  pub stage : Stage
  -- of a loop: its first position, how many indexes are not retired, all indexes, and the pieces that nobody has taken, in rising order
  pub first : ℕ
  pub unretired : ℕ
  pub indexes : List IndexLie
  pub pieces : List Piece
  -- the numbers that its loads found, and how many operations it has done
  pub answers : List ℕ
  pub count : ℕ

abbrev pub Lies : Type 0
Lies = Path → Option Lie

-- for the core a task that was claimed runs
abbrev pub phase_of : Stage → Phase
phase_of Waits = Unclaimed
phase_of (Promised k) = Running
phase_of (Posted k) = Running
phase_of (Given k) = Running
phase_of (Runs k) = Running
phase_of (Loops k) = Ended
phase_of Done = Finished
phase_of Gone = Finished

-- what the state word says
abbrev pub stand_of : Stage → Stand
stand_of Waits = S.Unclaimed
stand_of (Promised k) = S.Given k
stand_of (Posted k) = S.Given k
stand_of (Given k) = S.Given k
stand_of (Runs k) = S.Running k
stand_of (Loops k) = S.Running k
stand_of Done = S.Finished
stand_of Gone = S.Finished

abbrev pub is_gone : Stage → Bool
is_gone Gone = true
is_gone _ = false

module _ (j : Setup) where
  abbrev pub Known : Type 0
  Known = Path → Task (machine_of j.program)

  -- the task of the theory; the theory counts the forks of a task from 0, and the paths of a program from 1
  abbrev pub task_of : Path → Lie → Task (machine_of j.program)
  task_of p t = record { call = whole_at (map suc p) t.berth.call; phase = phase_of t.stage; answers = t.answers; done = t.count }

  -- what stands for a task that is not there
  abbrev pub blank : Task (machine_of j.program)
  blank = fresh (machine_of j.program) main_placed

  -- an index of the loop at a path
  abbrev pub index_of : Path → CallTree → ℕ → Option IndexLie → Task (machine_of j.program)
  index_of p call i none = blank
  index_of p call i (some x) = record {
    call = record { path = map suc p; job = Index call i };
    phase = x.phase;
    answers = x.answers;
    done = x.count;
  }

  abbrev pub index_in : Path → ℕ → Option Lie → Task (machine_of j.program)
  index_in p i none = blank
  index_in p i (some t) = index_of p t.berth.call i (get_elem? t.indexes i)

  -- a path that no task has may be that of an index
  abbrev pub task_or_index : Lies → Path → Option Lie → Task (machine_of j.program)
  task_or_index lies p none = index_in (parent_of p) (number_of p) (lies (parent_of p))
  task_or_index lies p (some t) = task_of p t

  abbrev pub get_of : Lies → Known
  get_of lies p = task_or_index lies p (lies p)

  abbrev pub core_of : Lies → List ℕ → Named (machine_of j.program)
  core_of lies store = record { get = get_of lies; store = store }

  abbrev pub counts_of : Lies → Path → ℕ
  counts_of lies = count_of (machine_of j.program) (get_of lies)

  -- how many children a task has forked
  abbrev pub forks_of : Task (machine_of j.program) → ℕ
  forks_of u = length (forks_in (machine_of j.program) (standing (machine_of j.program) u))

  abbrev pub IsHere : Lies → Path → Type 0
  IsHere lies p = IsThere levels (counts_of lies) p

  -- a task lies there, or it is an index of the loop above
  abbrev pub IsKnown : Lies → Path → Type 0
  IsKnown lies p = ((t : Lie) × (lies p ≡ some t))
      ⊎ ((t : Lie) × (x : IndexLie) × (lies (parent_of p) ≡ some t) × (get_elem? t.indexes (number_of p) ≡ some x))

  -- the core is lawful, and a task or an index is there exactly where its parent has forked it
  pub record Cored (lies : Lies) (store : List ℕ) : Type 0 where
    pub lawful : IsLawful j.program j.input (named (machine_of j.program) levels (core_of lies store))
    pub there : (p : Path) (t : Lie) → lies p ≡ some t → IsHere lies p
    -- the parent of a task is one, and no index
    pub parents : (p : Path) (i : ℕ) (t : Lie) → lies (child p i) ≡ some t → (u : Lie) × (lies p ≡ some u)
    pub index_there : (p : Path) (t : Lie) (i : ℕ) (x : IndexLie) → lies p ≡ some t → get_elem? t.indexes i ≡ some x → IsHere lies (child p i)
    pub all : (p : Path) → IsHere lies p → IsKnown lies p
