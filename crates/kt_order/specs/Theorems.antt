-- The statements of the theory.
use Rattle.std.specs.Prelude.{◌≡◌, ℕ, ◌≤◌, ◌<◌, List, ◌++◌, length, Some, ◌⊎◌}
use Rattle.kt_order.specs.Machine.{Machine, Code}
use Rattle.kt_order.specs.Sequential.{whole}
use Rattle.kt_order.specs.Lists.{nth}
use Rattle.kt_order.specs.Trace.{Operation, trace, IsNext}
use Rattle.kt_order.specs.Stand.{Standing, stand, Heads}
use Rattle.kt_order.specs.Laws.{Acts, Past, Rights, Laws, ApartLaws}
use Rattle.kt_order.specs.Forest.{Place, Task}
use Rattle.kt_order.specs.Rest.{left}
use Rattle.kt_order.specs.Events.{State, Event, opening, step, run, AllFinished, Enabled, Follows}
use Rattle.kt_order.specs.Lawful.{Lawful}
use Rattle.kt_order.specs.Shown.{settled, tasks, Embeds, moves_left}
use Rattle.kt_order.specs.Weights.{tasks_weigh, entries_weigh}
use Rattle.kt_order.specs.Places.{Separate, IsAbove, Stands, IsUnderWay, HandedDown}

module _ (m : Machine) where
  -- the operation that is next after what a body has done is the first of what is left
  abbrev pub NextIsFirst : Type 0
  NextIsFirst = (w : Code m) (answers : List m.Answer) (n : ℕ) (st : Standing m) (op : Operation m)
      → stand m w answers n ≡ Some st → IsNext m w answers n op → Heads m op st.left

  -- what a body has done stays what it has done, whatever answers come after
  abbrev pub DoneStays : Type 0
  DoneStays = (w : Code m) (answers more : List m.Answer) (n k : ℕ) (st : Standing m) → stand m w answers n ≡ Some st → k < n
      → nth (trace m w (answers ++ more)) k ≡ nth (trace m w answers) k

  module _ (r : Rights m) where
    abbrev pub OpeningIsLawful : Type 0
    OpeningIsLawful = Laws m r → (root : m.Call) (s : m.Store) → r.Fits root → Lawful m r root s (opening m root s)

    abbrev pub EventKeepsLawful : Type 0
    EventKeepsLawful = Laws m r → (root : m.Call) (s : m.Store) (e : Event) (x : State m) → Enabled m r e x → Lawful m r root s x
        → Lawful m r root s (step m e x)

    abbrev pub RunKeepsLawful : Type 0
    RunKeepsLawful = Laws m r → (root : m.Call) (s : m.Store) (es : List Event) (x : State m) → Follows m r es x
        → Lawful m r root s x → Lawful m r root s (run m es x)

    -- the store and the entries of a finished state are those of the sequential run
    abbrev pub FinishedIsSequential : Type 0
    FinishedIsSequential = Laws m r → (root : m.Call) (s : m.Store) (x : State m) → Lawful m r root s x → AllFinished m x.forest
        → whole m root s ≡ record { store = x.store; entries = settled m x.forest }

    abbrev pub SomeEventIsEnabled : Type 0
    SomeEventIsEnabled = (x : State m) → AllFinished m x.forest ⊎ (e : Event) × Enabled m r e x

    abbrev pub EveryOrderIsSequential : Type 0
    EveryOrderIsSequential = Laws m r → (root : m.Call) (s : m.Store) (es : List Event) → r.Fits root
        → Follows m r es (opening m root s) → let x = run m es (opening m root s) in
        AllFinished m x.forest → whole m root s ≡ record { store = x.store; entries = settled m x.forest }

    -- what each task has done is the beginning of what it does in the sequential run
    abbrev pub TasksBeginEntries : Type 0
    TasksBeginEntries = (root : m.Call) (s : m.Store) (x : State m) → Lawful m r root s x
        → Embeds m (tasks m x.forest) (whole m root s).entries

    abbrev pub NoMoreTasks : Type 0
    NoMoreTasks = (root : m.Call) (s : m.Store) (x : State m) → Lawful m r root s x
        → length (tasks m x.forest) ≤ length (whole m root s).entries

    -- what the tasks weigh, each with what it has at hand, is no more than what the sequential run weighs
    abbrev pub TasksWeighNoMore : Type 0
    TasksWeighNoMore = Laws m r → (of_call : m.Call → ℕ) (of_act : m.Act → ℕ) (root : m.Call) (s : m.Store) (x : State m) → Lawful m r root s x
        → tasks_weigh m of_call of_act x.forest ≤ entries_weigh m of_call of_act (whole m root s).entries

    abbrev pub MovesLeftFall : Type 0
    MovesLeftFall = Laws m r → (root : m.Call) (s : m.Store) (e : Event) (x : State m) → Enabled m r e x → Lawful m r root s x
        → moves_left m root s (step m e x) < moves_left m root s x

    -- two tasks under way, neither of them above the other
    abbrev pub SideBySideAreApart : Type 0
    SideBySideAreApart = Laws m r → ApartLaws m r → (root : m.Call) (s : m.Store) (x : State m) → Lawful m r root s x
        → (a b : Place) (u v : Task m) → Separate a b → Stands m u a x.forest → Stands m v b x.forest → IsUnderWay m u
        → IsUnderWay m v → r.Apart u.call v.call

    -- a task and one below it: what is left of the upper body goes past all that the lower may do
    abbrev pub UpperGoesPast : Type 0
    UpperGoesPast = Laws m r → (root : m.Call) (s : m.Store) (x : State m) → Lawful m r root s x → (a b : Place) (u v : Task m)
        → IsAbove a b → Stands m u a x.forest → Stands m v b x.forest
        → HandedDown m r u.call v.call × Acts m (Past m r v.call) (left m u)
