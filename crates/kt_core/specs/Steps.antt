-- What the private calls of a core promise.
use Rattle.std.specs.Prelude.{◌≡◌, ◌||◌, ℕ, true, List, Option, Some, None, Result, IfOk, IfErr, slice_get, slice_set}
use Rattle.kt_prog.specs.declared.runs.Operation.{Operation}
use Rattle.kt_prog.specs.declared.runs.Operation.TheVariants as O
use Rattle.kt_store.specs.Stores.{StoreState}
use Rattle.kt_tables.specs.Tables.{TaskRow, CoreState, is_finished, open_child}
use Rattle.kt_tables.specs.TableEvents.{CanAsk, Replies, is_ended, is_looping, in_phase, refusal, state_after, store_after}
use Rattle.kt_tables.specs.TableLaws.{IsLawfulState}
use Rattle.kt_tables.specs.declared.events.Event.{Event}
use Rattle.kt_tables.specs.declared.events.Phase.{Phase}
use Rattle.kt_tables.specs.declared.events.Why.{Why}

-- the answer to an event, and the core after it
pub record Steps (e : Event) (old new : CoreState) (answer : Result (Unit {0}) Why) : Type 0 where
  pub reply : Replies (refusal e old.table) answer
  pub done : IfOk answer (λ _. new ≡ state_after e old)
  pub same : IfErr answer (λ _. new ≡ old)

-- an event that the caller may ask for and that nothing refuses
pub record Goes (e : Event) (c : CoreState) : Type 0 where
  pub can : CanAsk c.program e c.table
  pub free : refusal e c.table ≡ None

-- the task has ended, or loops, and none of its children is open
abbrev pub IsClosed : ℕ → List TaskRow → Type 0
IsClosed t tasks = (r : TaskRow) → slice_get tasks t ≡ Some r → (is_ended r.phase || is_looping r.phase ≡ true) × (open_child r tasks ≡ None)

-- such an event leaves a lawful core lawful
abbrev pub EventsKeepStatesLawful : Type 0
EventsKeepStatesLawful = (e : Event) (c : CoreState) → Goes e c → IsLawfulState c → IsLawfulState (state_after e c)

abbrev pub rephased_at : ℕ → Phase → Option TaskRow → List TaskRow → List TaskRow
rephased_at t phase None tasks = tasks
rephased_at t phase (Some r) tasks = slice_set tasks t (in_phase phase r)

-- the core with a task in another phase
abbrev pub rephased : ℕ → Phase → CoreState → CoreState
rephased t phase c = record {
  program = c.program;
  input = c.input;
  table = record { store = c.table.store; tasks = rephased_at t phase (slice_get c.table.tasks t) c.table.tasks };
}

-- a task that is finished stays so
abbrev pub StaysFinished : ℕ → Phase → List TaskRow → Type 0
StaysFinished t phase tasks = (r : TaskRow) → slice_get tasks t ≡ Some r → is_finished r.phase ≡ true → is_finished phase ≡ true

abbrev pub IsNoFork : Operation → Type 0
IsNoFork (O.Fork call) = ⊥
IsNoFork (O.Load object element a) = Unit {0}
IsNoFork (O.Store object element v) = Unit {0}
IsNoFork (O.Fold object element op v) = Unit {0}
IsNoFork O.End = Unit {0}
IsNoFork (O.Fault law line) = Unit {0}

-- the store after an operation
abbrev pub acted : Operation → StoreState → StoreState
acted operation s = record { program = s.program; elements = store_after s.program operation s.elements }
