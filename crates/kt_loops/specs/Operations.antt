-- Which operation of a seat is the next one, and what the seat knows after it. It is that of the index which the seat runs: the first of the
-- indexes in hand whose next operation is neither the end nor a fault. Where there is none, it is that of the running body.
use Rattle.std.specs.Prelude.{◌≡◌, ℕ, ◌⊎◌, true, false, cond, List, ◌∷◌, ◌++◌, Option, Some}
use Rattle.atomic_table.specs.Table.{Step}
use Rattle.kt_law.specs.Acts.{Act, Deed}
use Rattle.kt_order.specs.Body.{Do, Stop}
use Rattle.kt_order.specs.Machine.{Code}
use Rattle.kt_order.specs.Rest.{left}
use Rattle.kt_prog.specs.Operations.{is_loop_at}
use Rattle.kt_prog.specs.Script.{Fault}
use Rattle.kt_prog.specs.Reference.{machine_of}
use Rattle.kt_prog.specs.Store.{place_of}
use Rattle.kt_pieces.specs.Changes.{heard}
use Rattle.kt_rule.specs.declared.views.Setup.{Setup}
use Rattle.kt_rule.specs.declared.views.Execution.{Execution}
use Rattle.kt_rule.specs.declared.views.IndexRun.{IndexRun}
use Rattle.kt_rule.specs.declared.views.View.{View}
use Rattle.kt_rule.specs.Lists.{In}
use Rattle.kt_rule.specs.Facts.{index_task}
use Rattle.kt_rule.specs.Rule.{Slots}
use Rattle.kt_rule.specs.Steps.{heard as found_by, over as past_end}
use Rattle.kt_steps.specs.Told.{DidNext, IsDueOn, IsEnded}

-- each of these indexes is at its end or at a fault
abbrev pub AreAtEnd : Setup → List IndexRun → Type 0
AreAtEnd j runs = (e : IndexRun) → In e runs → (fault : Option Fault) × (left (machine_of j.program) (index_task j e) ≡ Stop fault)

-- no index in hand is at an act
abbrev pub RunsNoIndex : View → Type 0
RunsNoIndex v = (j : Setup) → v.setup ≡ Some j → AreAtEnd j v.loops.taken

-- this deed on the element with this number is the next operation of the index that the seat runs
pub record IsIndexDueOn (v : View) (element : ℕ) (deed : Deed) : Type 0 where
  pub setup : Setup
  pub told : v.setup ≡ Some setup
  pub done : List IndexRun
  pub head : IndexRun
  pub rest : List IndexRun
  pub taken : v.loops.taken ≡ done ++ head ∷ rest
  pub over : AreAtEnd setup done
  pub act : Act
  pub does : act.deed ≡ deed
  pub place : place_of setup.program.families act ≡ element
  pub more : ℕ → Code (machine_of setup.program)
  pub next : left (machine_of setup.program) (index_task setup head) ≡ Do act more

-- the index did it, and these are the indexes in hand now
abbrev pub with_taken : View → List IndexRun → View
with_taken v taken = record v { loops = record v.loops { taken = taken } }

abbrev pub DidIndex : View → ℕ → View → Type 0
DidIndex v n w = (j : Setup) → v.setup ≡ Some j → (done : List IndexRun) (e : IndexRun) (rest : List IndexRun)
    → v.loops.taken ≡ done ++ e ∷ rest → AreAtEnd j done
    → (d : Act) (k : ℕ → Code (machine_of j.program)) → left (machine_of j.program) (index_task j e) ≡ Do d k
    → w ≡ with_taken v (done ++ heard (found_by d n) e ∷ rest)

-- this deed on the element with this number is the next operation of the seat
abbrev pub IsNextOn : View → ℕ → Deed → Type 0
IsNextOn v element deed = IsIndexDueOn v element deed ⊎ (RunsNoIndex v × IsDueOn v element deed)

-- it was done, and found this number
abbrev pub DidOne : View → ℕ → View → Type 0
DidOne v n w = DidIndex v n w × (RunsNoIndex v → DidNext v n w)

abbrev pub DoesOne : Step Slots → View → ℕ → View → Type 0
DoesOne st v n w = DidOne v n w

-- THE END OF A TASK

-- the running body is a loop in this record that has begun, and no index of it is left
pub record IsLoopEmptied (v : View) (at : ℕ) : Type 0 where
  pub setup : Setup
  pub told : v.setup ≡ Some setup
  pub head : Execution
  pub rest : List Execution
  pub runs : v.tasks.running ≡ head ∷ rest
  pub lies : head.spot.berth.at ≡ at
  pub loop : is_loop_at setup.program head.spot.berth.call.task ≡ true
  pub looping : head.looping ≡ true
  pub none_left : In head.spot.path v.loops.emptied

-- the running body may be finished: a task's that is no loop, or that of a loop
pub record IsPlainEnd (v : View) (at : ℕ) : Type 0 where
  pub ended : IsEnded v at
  pub plain : ended.head.looping ≡ false

abbrev pub MayFinish : View → ℕ → Type 0
MayFinish v at = IsPlainEnd v at ⊎ IsLoopEmptied v at

-- the end of a loop was done as its indexes began
abbrev pub finished : Execution → Execution
finished e = cond e.looping e (past_end e)

abbrev pub finishes : View → Execution → List Execution → View
finishes v e rest = record v {
  tasks = record v.tasks { running = rest; ran = finished e ∷ v.tasks.ran };
  seen = record v.seen { known = e.spot.path ∷ v.seen.known };
}

abbrev pub FinishesAt : Step Slots → View → ℕ → View → Type 0
FinishesAt st v n w = (e : Execution) (rest : List Execution) → v.tasks.running ≡ e ∷ rest → w ≡ finishes v e rest
