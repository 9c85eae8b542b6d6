-- The core with the books of its loops, and its events: claims, operations of bodies, the events of loops, and finishes.
use Rattle.std.specs.Prelude.{◌≡◌, ℕ, ◌-◌, ◌≤◌, Bool, true, false, cond, List, [], ◌∷◌, None, Some, ◌⊎◌}
use Rattle.kt_order.specs.Lists.{nth}
use Rattle.kt_order.specs.Body.{Stop, Do, Fork}
use Rattle.kt_order.specs.Machine.{Code}
use Rattle.kt_order.specs.Forest.{Running, Ended, Place, Here, Down, Later, Task, Nil, At}
use Rattle.kt_order.specs.Rest.{left}
use Rattle.kt_order.specs.Events as order
use Rattle.kt_order.specs.Events.{left_at}
use Rattle.kt_order.specs.Books.{Book, Piece, whole_book, is_inside, cut, CanTake, take}
use Rattle.kt_order.specs.Loops.{child, begin_events, take_events, index_events, phases}
use Rattle.kt_prog.specs.Calls.{CallTree, Job, Whole, Index, index_of}
use Rattle.kt_prog.specs.Operations.{is_loop_at}
use Rattle.kt_prog.specs.Accepted.{IsAccepted}
use Rattle.kt_prog.specs.Reference.{machine_of}
use Rattle.kt_prog.specs.declared.programs.Program.{Program}
use Rattle.kt_runs.specs.States.{Core, opening_core, IsEnabled, after_events, IsLawful, IsDone, GivesReference}
use Rattle.kt_runs.specs.Loops.{CanBegin, CanRetire, LoopAt}

-- the tasks stand at places; a loop that has begun is Looping where its body has ended and it is not finished
pub data CoreEvent : Type 0 where
  ClaimInOrder : Place → CoreEvent
  ClaimReady : Place → CoreEvent
  -- the next operation of a task's body
  Body : Place → CoreEvent
  -- the loop's call at its path begins
  Begin : Place → List ℕ → CallTree → CoreEvent
  Split : Place → (at : ℕ) → CoreEvent
  Take : Place → (at n : ℕ) → CoreEvent
  -- the next operation of an index
  IndexBody : Place → (i : ℕ) → CoreEvent
  Retire : Place → (n : ℕ) → CoreEvent
  Finish : Place → CoreEvent

abbrev pub same_place : Place → Place → Bool
same_place Here Here = true
same_place (Down q) (Down r) = same_place q r
same_place (Later q) (Later r) = same_place q r
same_place _ _ = false

-- no pieces, and no index unretired
abbrev pub empty_book : Book
empty_book = whole_book 0

-- the books with this one at a place
abbrev pub with_book : Place → Book → (Place → Book) → Place → Book
with_book q b books r = cond (same_place q r) b (books r)

-- a piece has the index strictly inside
abbrev pub HasInside : ℕ → List Piece → Type 0
HasInside at [] = ⊥
HasInside at (piece ∷ pieces) = (is_inside at piece ≡ true) ⊎ HasInside at pieces

module _ (p : Program) where
  -- a core, and a book for each place where a loop stands
  pub record Booked : Type 0 where
    pub core : Core p
    pub books : Place → Book

  abbrev pub is_loop_job : Job → Bool
  is_loop_job (Whole call) = is_loop_at p call.task
  is_loop_job (Index call i) = false

  abbrev pub IsCall : Task (machine_of p) → Type 0
  IsCall u = index_of u.call.job ≡ None

  abbrev pub IsLooping : Task (machine_of p) → Type 0
  IsLooping u = (is_loop_job u.call.job ≡ true) × (u.phase ≡ Ended)

  abbrev pub IsAct : Code (machine_of p) → Type 0
  IsAct (Stop f) = ⊥
  IsAct (Do q k) = Unit {0}
  IsAct (Fork c w) = ⊥

  -- a running task; of a loop's call the zeroing alone is its body's
  pub record MayGoOn (u : Task (machine_of p)) : Type 0 where
    pub call : IsCall u
    pub running : u.phase ≡ Running
    pub zeroing : is_loop_job u.call.job ≡ true → IsAct (left (machine_of p) u)

  abbrev pub TaskAt : (Task (machine_of p) → Type 0) → Place → Core p → Type 0
  TaskAt Q q x = At (machine_of p) (λ u kids. Q u) q x.forest

  abbrev pub CanDo : CoreEvent → Booked → Type 0
  CanDo (ClaimInOrder q) y = TaskAt IsCall q y.core × IsEnabled p (order.ClaimInOrder q) y.core
  CanDo (ClaimReady q) y = TaskAt IsCall q y.core × IsEnabled p (order.ClaimReady q) y.core
  CanDo (Body q) y = TaskAt MayGoOn q y.core
  CanDo (Begin q path call) y = TaskAt (CanBegin p path call) q y.core
  CanDo (Split q at) y = TaskAt IsLooping q y.core × HasInside at (y.books q).pieces
  CanDo (Take q at n) y = TaskAt IsLooping q y.core × (1 ≤ n) × CanTake at n (y.books q).pieces
  CanDo (IndexBody q i) y = TaskAt IsLooping q y.core × At (machine_of p) (λ u kids. nth (phases (machine_of p) kids) i ≡ Some Running) q y.core.forest
  CanDo (Retire q n) y = TaskAt IsLooping q y.core × (1 ≤ n) × At (machine_of p) (λ u kids. CanRetire p n (y.books q) kids) q y.core.forest
  CanDo (Finish q) y = TaskAt IsCall q y.core × IsEnabled p (order.Finish q) y.core × (TaskAt IsLooping q y.core → (y.books q).unretired ≡ 0)

  -- what the event is in the theory of reordering, where an index is a child of its loop
  abbrev pub events_of : CoreEvent → Core p → List order.Event
  events_of (ClaimInOrder q) x = order.ClaimInOrder q ∷ []
  events_of (ClaimReady q) x = order.ClaimReady q ∷ []
  events_of (Body q) x = order.Step q ∷ []
  events_of (Begin q path call) x = begin_events q call.length
  events_of (Split q at) x = []
  events_of (Take q at n) x = take_events q at n
  events_of (IndexBody q i) x = index_events (machine_of p) (left_at (machine_of p) (child q i) x.forest) q i
  events_of (Retire q n) x = []
  events_of (Finish q) x = order.Finish q ∷ []

  abbrev pub books_of : CoreEvent → (Place → Book) → Place → Book
  books_of (ClaimInOrder q) books = books
  books_of (ClaimReady q) books = books
  books_of (Body q) books = books
  books_of (Begin q path call) books = with_book q (whole_book call.length) books
  books_of (Split q at) books = with_book q (record { pieces = cut at (books q).pieces; unretired = (books q).unretired }) books
  books_of (Take q at n) books = with_book q (record { pieces = take at n (books q).pieces; unretired = (books q).unretired }) books
  books_of (IndexBody q i) books = books
  books_of (Retire q n) books = with_book q (record { pieces = (books q).pieces; unretired = (books q).unretired - n }) books
  books_of (Finish q) books = books

  abbrev pub after_core : CoreEvent → Booked → Booked
  after_core e y = record { core = after_events p (events_of e y.core) y.core; books = books_of e y.books }

  -- a loop that is claimed and has not begun
  abbrev pub IsRunningLoop : Task (machine_of p) → Type 0
  IsRunningLoop u = (is_loop_job u.call.job ≡ true) × (u.phase ≡ Running)

  -- the task at the place has no children
  abbrev pub BareAt : Place → Core p → Type 0
  BareAt q x = At (machine_of p) (λ u kids. kids ≡ Nil) q x.forest

  -- a lawful core with the books of its loops
  pub record IsLawfulCore (input : List ℕ) (y : Booked) : Type 0 where
    pub lawful : IsLawful p input y.core
    -- each looping loop has its book
    pub books : (q : Place) → TaskAt IsLooping q y.core → LoopAt p (y.books q) q y.core
    -- a loop that has not begun has no index; of an unclaimed one the lawful core says it
    pub bare : (q : Place) → TaskAt IsRunningLoop q y.core → BareAt q y.core
    -- where no loop is looping the book is empty: so it is of a loop that has not begun, and of one that is finished
    pub empty : (q : Place) → (TaskAt IsLooping q y.core → ⊥) → y.books q ≡ empty_book

  -- main unclaimed, the input in the store, and no loop that has begun
  abbrev pub opening_booked : List ℕ → Booked
  opening_booked input = record { core = opening_core p input; books = λ q. empty_book }

  -- each event can be done in the core that the earlier ones leave
  abbrev pub IsCoreRun : List CoreEvent → Booked → Type 0
  IsCoreRun [] y = Unit {0}
  IsCoreRun (e ∷ es) y = CanDo e y × IsCoreRun es (after_core e y)

  abbrev pub after_core_events : List CoreEvent → Booked → Booked
  after_core_events [] y = y
  after_core_events (e ∷ es) y = after_core_events es (after_core e y)

-- an event that can be done in a lawful core leaves a lawful core
abbrev pub CoreEventsKeepLawful : Type 0
CoreEventsKeepLawful = (p : Program) (input : List ℕ) → IsAccepted p → (e : CoreEvent) (y : Booked p) → CanDo p e y
    → IsLawfulCore p input y → IsLawfulCore p input (after_core p e y)

-- so every run of the core goes through lawful cores
abbrev pub CoreRunsAreLawful : Type 0
CoreRunsAreLawful = (p : Program) (input : List ℕ) → IsAccepted p → (es : List CoreEvent) → IsCoreRun p es (opening_booked p input)
    → IsLawfulCore p input (after_core_events p es (opening_booked p input))

-- and one that finishes main gives the reference run
abbrev pub CoreRunsGiveReference : Type 0
CoreRunsGiveReference = (p : Program) (input : List ℕ) → IsAccepted p → (es : List CoreEvent) → IsCoreRun p es (opening_booked p input)
    → let y = after_core_events p es (opening_booked p input) in IsDone p y.core → GivesReference p input y.core

-- while main is not finished some event can be done
abbrev pub SomeCoreEventGoes : Type 0
SomeCoreEventGoes = (p : Program) (input : List ℕ) → IsAccepted p → (y : Booked p) → IsLawfulCore p input y
    → IsDone p y.core ⊎ (e : CoreEvent) × CanDo p e y
