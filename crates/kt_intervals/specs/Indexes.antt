-- How a seat stands within the body of an index that it runs.
use Rattle.std.specs.Prelude.{◌≡◌, ℕ, suc, false, true, List, ◌∷◌, ◌++◌, length, map, Option, Some, None}
use Rattle.kt_body.specs.declared.ops.Ended.{Ended}
use Rattle.kt_body.specs.declared.ops.Ended.TheVariants as E
use Rattle.kt_order.specs.Body.{Stop}
use Rattle.kt_order.specs.Rest.{standing}
use Rattle.kt_order.specs.Stand.{Standing}
use Rattle.kt_prog.specs.Calls.{Job, Index}
use Rattle.kt_prog.specs.Reference.{machine_of}
use Rattle.kt_prog.specs.Runs.{FaultRun}
use Rattle.kt_prog.specs.Script.{Fault}
use Rattle.kt_prog.specs.declared.programs.Program.{Program}
use Rattle.kt_runs.specs.ByPath.{Path}
use Rattle.kt_rule.specs.declared.views.IndexRun.{IndexRun}
use Rattle.kt_rule.specs.declared.views.Setup.{Setup}
use Rattle.kt_rule.specs.declared.views.View.{View}
use Rattle.kt_rule.specs.Facts.{index_task}
use Rattle.kt_rule.specs.Views.{blank_view}
use Rattle.kt_loops.specs.Operations.{AreAtEnd, with_taken}
use Rattle.kt_intervals.specs.Programs.{HasFirsts}

-- the body of the index stands where its numbers say, before its end
pub record IsIndexGoing (j : Setup) (e : IndexRun) : Type 0 where
  pub st : Standing (machine_of j.program)
  pub is : standing (machine_of j.program) (index_task j e) ≡ Some st
  pub still : st.over ≡ false

-- it has nothing left but its end, or this fault
pub record IsIndexAtEnd (j : Setup) (e : IndexRun) (fault : Option Fault) : Type 0 where
  pub way : IsIndexGoing j e
  pub stops : way.st.left ≡ Stop fault

-- and it has done that too
pub record IsIndexOver (j : Setup) (e : IndexRun) : Type 0 where
  pub st : Standing (machine_of j.program)
  pub is : standing (machine_of j.program) (index_task j e) ≡ Some st
  pub over : st.over ≡ true
  pub fault : Option Fault
  pub stops : st.left ≡ Stop fault

-- what the seat knew where the body began, and behind how many of the indexes in hand the index stands
pub record Start : Type 0 where
  pub view : View
  pub count : ℕ

abbrev pub blank_start : Start
blank_start = record { view = blank_view; count = 0 }

-- that index has gone on, and nothing else happened
pub record Since (s : Start) (w : View) (e : IndexRun) : Type 0 where
  pub done : List IndexRun
  pub start : IndexRun
  pub rest : List IndexRun
  pub was : s.view.loops.taken ≡ done ++ start ∷ rest
  pub many : length done ≡ s.count
  pub went : e ≡ record start { answers = e.answers; done = e.done }
  pub same : w ≡ with_taken s.view (done ++ e ∷ rest)

-- the seat's view, the program, and its table of first elements
pub record Hand : Type 0 where
  pub view : View
  pub program : Program
  pub firsts : List ℕ

-- the seat stands so in the body of an index; those before it are at their end
pub record StandsIn (s : Start) (h : Hand) (p : Program) (job : Job) (answers : List ℕ) (count : ℕ) : Type 0 where
  pub program : h.program ≡ p
  pub setup : Setup
  pub told : h.view.setup ≡ Some setup
  pub same_program : setup.program ≡ p
  pub firsts : HasFirsts p.families h.firsts
  pub e : IndexRun
  pub since : Since s h.view e
  pub before : AreAtEnd setup since.done
  pub way : IsIndexGoing setup e
  pub job_is : job ≡ Index e.spot.berth.call e.index
  pub answers_are : e.answers ≡ answers
  pub count_is : e.done ≡ count

-- the fault with which a body ended
abbrev pub fault_with : Ended → Option Fault
fault_with E.Done = None
fault_with (E.Fault law line) = Some (record { law = law; line = line })
fault_with E.Halted = None

-- the fault of an index, as a run names it
abbrev pub index_fault : Path → ℕ → Option Fault → Option FaultRun
index_fault path index None = None
index_fault path index (Some f) = Some (record { path = map suc path; index = Some index; fault = f.law; line = f.line })

-- the body has come to its end, or to this fault
pub record Came (s : Start) (w : View) (fault : Option Fault) : Type 0 where
  pub e : IndexRun
  pub since : Since s w e
  pub ends : (j : Setup) → s.view.setup ≡ Some j → IsIndexAtEnd j e fault

-- how the body ended that began so; it is never halted
abbrev pub GoneSo : Start → View → Ended → Type 0
GoneSo s w E.Done = Came s w None
GoneSo s w (E.Fault law line) = Came s w (Some (record { law = law; line = line }))
GoneSo s w E.Halted = ⊥
