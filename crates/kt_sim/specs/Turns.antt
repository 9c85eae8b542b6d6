-- The turns of a simulated run.
use Rattle.std.specs.Prelude.{◌≡◌, ◌<◌, ℕ, List, [], ◌∷◌, length, Bool, true, false, Option, Some, None, Result, Ok, Err, slice_get}
use Rattle.kt_order.specs.Books.{Piece}
use Rattle.kt_tables.specs.LoopRows.{is_under_way}
use Rattle.kt_tables.specs.Tables.{TaskRow, CoreState, MainIsFinished, count_indexes, is_open, open_before, open_child}
use Rattle.kt_tables.specs.declared.events.Event.{Event}
use Rattle.kt_tables.specs.declared.events.Event.TheVariants as E
use Rattle.kt_tables.specs.declared.events.Phase.{Phase}
use Rattle.kt_tables.specs.declared.events.Phase.TheVariants as P
use Rattle.kt_sim.specs.Left.{left_in}
use Rattle.kt_sim.specs.declared.loops.Span.{Span}
use Rattle.kt_sim.specs.declared.operations.Stop.{Stop}
use Rattle.kt_sim.specs.declared.operations.Stop.TheVariants as S
use Rattle.kt_sim.specs.Simulated.{IsCalm, Follows, IsOver}

-- a claim, a finish, or a split, a take or a retirement of a loop
abbrev pub IsOutside : Event → Type 0
IsOutside (E.Body t operation) = ⊥
IsOutside (E.Begin t) = ⊥
IsOutside (E.Index t i operation) = ⊥
IsOutside _ = Unit {0}

-- events outside of bodies lead from the first state to the second
pub record Leads (x y : CoreState) : Type 0 where
  pub calm : IsCalm y
  pub follows : Follows x y
  pub long : length y.table.tasks ≡ length x.table.tasks
  pub indexes : count_indexes y.table.tasks ≡ count_indexes x.table.tasks

-- they were done, or there was no memory
abbrev pub Reaches : CoreState → CoreState → Result (Unit {0}) Stop → Type 0
Reaches x y (Ok done) = Leads x y
Reaches x y (Err S.Over) = ⊥
Reaches x y (Err S.NoMemory) = Unit {0}

-- one was done, or there was no memory
abbrev pub Does : CoreState → CoreState → Result (Unit {0}) Stop → Type 0
Does x y (Ok done) = Leads x y × (left_in y < left_in x)
Does x y (Err S.Over) = ⊥
Does x y (Err S.NoMemory) = Unit {0}

-- one was done or was not, or there was no memory
abbrev pub Tries : CoreState → CoreState → Result Bool Stop → Type 0
Tries x y (Ok true) = Leads x y × (left_in y < left_in x)
Tries x y (Ok false) = y ≡ x
Tries x y (Err S.Over) = ⊥
Tries x y (Err S.NoMemory) = Unit {0}

-- the body of an index was run, or nothing was done, or why not
abbrev pub TriesBody : CoreState → CoreState → Result Bool Stop → Type 0
TriesBody x y (Ok true) = IsCalm y × Follows x y × (left_in y < left_in x)
TriesBody x y (Ok false) = y ≡ x
TriesBody x y (Err S.Over) = Follows x y × IsOver y
TriesBody x y (Err S.NoMemory) = Unit {0}

abbrev pub IsFreeIn : Phase → ℕ → TaskRow → List TaskRow → Type 0
IsFreeIn P.Unclaimed t r tasks = open_before t r tasks ≡ None
IsFreeIn P.Running t r tasks = Unit {0}
IsFreeIn P.Looping t r tasks = open_child r tasks ≡ None
IsFreeIn P.Ended t r tasks = open_child r tasks ≡ None
IsFreeIn P.Finished t r tasks = ⊥

-- the task can go on
pub record IsFree (t : ℕ) (c : CoreState) : Type 0 where
  pub there : t < length c.table.tasks
  pub free : (r : TaskRow) → slice_get c.table.tasks t ≡ Some r → IsFreeIn r.phase t r c.table.tasks

-- a loop, none of whose children is open
abbrev pub IsFreeLoop : ℕ → CoreState → Type 0
IsFreeLoop t c = (r : TaskRow) × (slice_get c.table.tasks t ≡ Some r) × (r.phase ≡ P.Looping) × (open_child r c.table.tasks ≡ None)

-- and each of its indexes has been taken and has ended
pub record IsRunOut (t : ℕ) (c : CoreState) : Type 0 where
  pub loop : IsFreeLoop t c
  pub pieces : loop.0.loop.pieces ≡ []
  pub none : (i : ℕ) → i < loop.0.call.length → is_under_way (slice_get loop.0.loop.indexes i) ≡ false

abbrev pub first_of : List Piece → Option Span
first_of [] = None
first_of (piece ∷ pieces) = Some (record { from = piece.from; to = piece.to })

-- the first piece of the loop has some indexes, these
pub record BeginsPiece (t : ℕ) (span : Span) (c : CoreState) : Type 0 where
  pub row : TaskRow
  pub there : slice_get c.table.tasks t ≡ Some row
  pub looping : row.phase ≡ P.Looping
  pub first : first_of row.loop.pieces ≡ Some span
  pub some : span.from < span.to

-- main is not finished
pub record IsOpen (c : CoreState) : Type 0 where
  pub there : 0 < length c.table.tasks
  pub main : (r : TaskRow) → slice_get c.table.tasks 0 ≡ Some r → is_open r ≡ true

-- the last state of a run, or why there is none
abbrev pub Ends : CoreState → CoreState → Result (Unit {0}) Stop → Type 0
Ends x y (Ok done) = IsCalm y × Follows x y × MainIsFinished y.table.tasks
Ends x y (Err S.Over) = Follows x y × IsOver y
Ends x y (Err S.NoMemory) = Unit {0}

-- the task is not finished, and each before it in its frame is
pub record IsFirst (t : ℕ) (c : CoreState) : Type 0 where
  pub there : t < length c.table.tasks
  pub first : (r : TaskRow) → slice_get c.table.tasks t ≡ Some r → (is_open r ≡ true) × (open_before t r c.table.tasks ≡ None)

abbrev pub depth_of : Option TaskRow → ℕ
depth_of None = 0
depth_of (Some r) = length r.path

-- how long the path of a task is
abbrev pub depth_at : ℕ → CoreState → ℕ
depth_at t c = depth_of (slice_get c.table.tasks t)
