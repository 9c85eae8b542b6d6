-- What the events of a table are in the theory.
use Rattle.std.specs.Prelude.{◌≡◌, ℕ, suc, List, map, true, Some, None, slice_get}
use Rattle.kt_order.specs.Forest.{Place}
use Rattle.kt_order.specs.Paths.{place_of}
use Rattle.kt_prog.specs.Accepted.{IsAccepted}
use Rattle.kt_prog.specs.declared.programs.Program.{Program}
use Rattle.kt_runs.specs.CoreEvents as core
use Rattle.kt_runs.specs.CoreEvents.{CoreEvent, Booked, CanDo, after_core}
use Rattle.kt_tables.specs.Tables.{TaskRow, TaskTable}
use Rattle.kt_tables.specs.TableEvents.{task_of, CanAsk, refusal, table_after}
use Rattle.kt_tables.specs.TableLaws.{book_of, has_begun, shown, IsLawfulTable}
use Rattle.kt_tables.specs.declared.events.Event.{Event}
use Rattle.kt_tables.specs.declared.events.Event.TheVariants as E

-- the event of the core that this event of task r is, where q is the place of the task
abbrev pub core_event : Event → TaskRow → Place → CoreEvent
core_event (E.ClaimInOrder t) r q = core.ClaimInOrder q
core_event (E.ClaimReady t) r q = core.ClaimReady q
core_event (E.Body t operation) r q = core.Body q
core_event (E.Begin t) r q = core.Begin q r.path r.call
core_event (E.Split t at) r q = core.Split q at
core_event (E.Take t at n) r q = core.Take q at n
core_event (E.Index t i operation) r q = core.IndexBody q i
core_event (E.Retire t n) r q = core.Retire q n
core_event (E.Finish t) r q = core.Finish q

-- the table shows this core, and at the place of each loop that has begun it has the loop's book
pub record ShowsBooked (p : Program) (x : TaskTable) (y : Booked p) : Type 0 where
  pub core : shown p x ≡ y.core
  pub books : (t : ℕ) (r : TaskRow) (q : List ℕ) → slice_get x.tasks t ≡ Some r → r.path ≡ map suc q → has_begun p r ≡ true
      → y.books (place_of q) ≡ book_of r

-- an event that may be asked for and that nothing refuses can be done in the core that the table shows, and the table afterwards shows
-- the core after it
abbrev pub TableEventsAreEvents : Type 0
TableEventsAreEvents = (p : Program) (input : List ℕ) → IsAccepted p → (e : Event) (x : TaskTable) → CanAsk p e x → refusal e x ≡ None
    → IsLawfulTable p input x → (r : TaskRow) (q : List ℕ) → slice_get x.tasks (task_of e) ≡ Some r → r.path ≡ map suc q
    → (y : Booked p) → ShowsBooked p x y
    → CanDo p (core_event e r (place_of q)) y × ShowsBooked p (table_after p e x) (after_core p (core_event e r (place_of q)) y)
