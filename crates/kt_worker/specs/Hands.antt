-- How a seat stands within a body that it runs.
use Rattle.std.specs.Prelude.{◌≡◌, ◌≤◌, ◌<◌, ℕ, suc, ◌+◌, ◌*◌, map, List, [], ◌∷◌, ◌++◌, length, Bool, true, false, Option, Some, None}
use mathlib.Core.Option.{some}
use lib.ListN.{get_elem?}
use Rattle.kt_body.specs.declared.ops.Ended.{Ended}
use Rattle.kt_body.specs.declared.ops.Ended.TheVariants as E
use Rattle.kt_order.specs.Body.{Stop}
use Rattle.kt_order.specs.Rest.{standing}
use Rattle.kt_order.specs.Stand.{Standing}
use Rattle.kt_prog.specs.Calls.{Job, Whole}
use Rattle.kt_prog.specs.Reference.{machine_of}
use Rattle.kt_prog.specs.Script.{Fault}
use Rattle.kt_prog.specs.declared.programs.Program.{Program}
use Rattle.kt_runs.specs.ByPath.{Path, child}
use Rattle.kt_runs.specs.Loops.{CanBegin}
use Rattle.kt_words.specs.declared.layouts.TheConstants.{RECORDS}
use Rattle.kt_rule.specs.declared.views.Setup.{Setup}
use Rattle.kt_rule.specs.declared.views.Spot.{Spot}
use Rattle.kt_rule.specs.declared.views.Execution.{Execution}
use Rattle.kt_rule.specs.declared.views.View.{View}
use Rattle.kt_rule.specs.Views.{no_draws}
use Rattle.kt_calls.specs.Ranges.{IsOfCrew, IsRecord}
use Rattle.kt_intervals.specs.Indexes.{fault_with}
use Rattle.kt_intervals.specs.Programs.{HasFirsts}
use Rattle.kt_worker.specs.Faults.{task_of}

-- the body of the execution stands where its numbers say, before its end
pub record IsUnderWay (p : Program) (e : Execution) : Type 0 where
  pub st : Standing (machine_of p)
  pub is : standing (machine_of p) (task_of p e) ≡ Some st
  pub still : st.over ≡ false

-- the body has nothing left but its end, or this fault
pub record IsAtEnd (p : Program) (e : Execution) (fault : Option Fault) : Type 0 where
  pub way : IsUnderWay p e
  pub stops : way.st.left ≡ Stop fault

-- the children of a task lie side by side in the region, from this place on
abbrev pub HasChildren : List Spot → ℕ → ℕ → Path → ℕ → Type 0
HasChildren spots base first path count = (k : ℕ) → k < count
    → (m : Spot) × (get_elem? spots (first + k) ≡ some m) × (m.path ≡ child path k) × (m.berth.at ≡ base + (first + k))

-- the first record of a seat's region
abbrev pub base_of : View → ℕ
base_of v = RECORDS * v.worker

-- the running body has gone on, and nothing else happened: its execution is another, and there are more records
pub record Since (v w : View) (e : Execution) : Type 0 where
  pub start : Execution
  pub rest : List Execution
  pub was : v.tasks.running ≡ start ∷ rest
  pub spot : e.spot ≡ start.spot
  pub more : List Spot
  pub spots : w.region.spots ≡ v.region.spots ++ more
  pub same : w ≡ record v {
    region = w.region;
    tasks = record v.tasks { running = e ∷ rest };
    seen = record v.seen { stop = w.seen.stop };
    draws = w.draws;
  }

-- the seat's view, the program, its table of first elements, the task's record, the place of its first child in the region, how many
-- children there are, their frame, and whether a fork was one too many
pub record Hand : Type 0 where
  pub view : View
  pub program : Program
  pub firsts : List ℕ
  pub parent : ℕ
  pub first : ℕ
  pub forks : ℕ
  pub frame : ℕ
  pub limit : Bool

-- the seat stands so in the running body, which began where its view was `began`
pub record StandsAt (began : View) (h : Hand) (p : Program) (job : Job) (answers : List ℕ) (count : ℕ) : Type 0 where
  pub program : h.program ≡ p
  pub setup : Setup
  pub told : h.view.setup ≡ Some setup
  pub same_program : setup.program ≡ p
  pub firsts : HasFirsts p.families h.firsts
  pub crew : IsOfCrew h.view
  pub inside : IsRecord h.view h.parent
  pub e : Execution
  pub since : Since began h.view e
  pub way : IsUnderWay p e
  pub plain : e.looping ≡ false
  pub none_taken : h.view.loops.taken ≡ []
  pub job_is : job ≡ Whole e.spot.berth.call
  pub answers_are : e.answers ≡ answers
  pub count_is : e.done ≡ count
  pub lies : e.spot.berth.at ≡ h.parent
  pub start : h.first ≡ length began.region.spots
  pub frame_is : e.frame ≡ h.frame
  pub topmost : e.frame ≡ h.view.tasks.begun
  pub forks_are : e.forks ≡ h.forks
  pub next_is : length h.view.region.spots ≡ h.first + h.forks
  pub few : length h.view.region.spots ≤ RECORDS
  pub children : HasChildren h.view.region.spots (base_of h.view) h.first e.spot.path h.forks
  pub built : h.view.region.built ≡ []
  pub draws : h.limit ≡ false → h.view.draws ≡ no_draws
  pub stop : h.limit ≡ true → h.view.seen.stop ≡ true

-- the body did not come to its end
abbrev pub is_halted : Ended → Bool
is_halted E.Done = false
is_halted (E.Fault law line) = false
is_halted E.Halted = true

-- a body has come so far; its children lie behind the records of the time when it began
pub record Came (began w : View) (forks : ℕ) (far : Execution → Type 0) : Type 0 where
  pub e : Execution
  pub since : Since began w e
  pub plain : e.looping ≡ false
  pub ends : far e
  pub forks_are : e.forks ≡ forks
  pub children : HasChildren w.region.spots (base_of w) (length began.region.spots) e.spot.path forks
  pub long : length w.region.spots ≡ length began.region.spots + forks
  pub few : length w.region.spots ≤ RECORDS
  pub built : w.region.built ≡ []
  pub draws : w.draws ≡ no_draws

-- a fork of it was one too many
pub record Overran (began w : View) : Type 0 where
  pub e : Execution
  pub since : Since began w e
  pub stop : w.seen.stop ≡ true

-- how a body ended that began where the view was `began`
abbrev pub GoneSo : View → View → Program → ℕ → Ended → Type 0
GoneSo began w p forks E.Done = Came began w forks (λ e. IsAtEnd p e None)
GoneSo began w p forks (E.Fault law line) = Came began w forks (λ e. IsAtEnd p e (fault_with (E.Fault law line)))
GoneSo began w p forks E.Halted = Overran began w

-- the zeroing of the loop is done, and its indexes can begin
pub record IsZeroed (p : Program) (e : Execution) : Type 0 where
  pub way : IsUnderWay p e
  pub can : CanBegin p (map suc e.spot.path) e.spot.berth.call (task_of p e)

-- how the zeroing of a loop ended that began where the view was `began`
abbrev pub ZeroedSo : View → View → Program → ℕ → Ended → Type 0
ZeroedSo began w p forks E.Done = Came began w forks (IsZeroed p)
ZeroedSo began w p forks (E.Fault law line) = ⊥
ZeroedSo began w p forks E.Halted = Overran began w
