-- A body that runs on a core.
use Rattle.std.specs.Prelude.{◌≡◌, ℕ, List, Some, slice_get}
use Rattle.kt_prog.specs.Calls.{Job, Whole}
use Rattle.kt_prog.specs.declared.programs.Program.{Program}
use Rattle.kt_prog.specs.declared.runs.Operation.{Operation}
use Rattle.kt_tables.specs.Tables.{TaskRow, CoreState}
use Rattle.kt_tables.specs.TableEvents.{IsDue}
use Rattle.kt_tables.specs.declared.events.Event.{Event}
use Rattle.kt_tables.specs.declared.events.Event.TheVariants as E
use Rattle.kt_tables.specs.declared.events.Phase.TheVariants as P

-- task t runs, and stands in this body of the program after so many operations, whose loads found these numbers
pub record StandsAt (c : CoreState) (t : ℕ) (p : Program) (job : Job) (answers : List ℕ) (count : ℕ) : Type 0 where
  pub program : c.program ≡ p
  pub row : TaskRow
  pub there : slice_get c.table.tasks t ≡ Some row
  pub running : row.phase ≡ P.Running
  pub whole : Whole row.call ≡ job
  pub found : row.answers ≡ answers
  pub gone : row.done ≡ count

-- task t runs, and the operation is due
pub record CanGo (c : CoreState) (t : ℕ) (operation : Operation) : Type 0 where
  pub row : TaskRow
  pub there : slice_get c.table.tasks t ≡ Some row
  pub running : row.phase ≡ P.Running
  pub due : IsDue c.program operation row c.table

-- the event may be asked for of any task
abbrev pub IsPlain : Event → Type 0
IsPlain (E.Body t operation) = ⊥
IsPlain (E.Begin t) = ⊥
IsPlain (E.ClaimInOrder t) = Unit {0}
IsPlain (E.ClaimReady t) = Unit {0}
IsPlain (E.Split t at) = Unit {0}
IsPlain (E.Take t at n) = Unit {0}
IsPlain (E.Index t i operation) = ⊥
IsPlain (E.Retire t n) = Unit {0}
IsPlain (E.Finish t) = Unit {0}
