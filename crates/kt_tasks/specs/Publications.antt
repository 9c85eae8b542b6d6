-- When a seat may publish, and what a publication does to its view.
use Rattle.std.specs.Prelude.{◌≡◌, ℕ, suc, ◌+◌, ◌<◌, ◌≤◌, List, [], ◌∷◌, length, Some}
use Rattle.atomic_table.specs.Table.{Step}
use Rattle.kt_law.specs.declared.limits.TheConstants.{TASKS, WORKERS}
use Rattle.kt_order.specs.Body.{Fork}
use Rattle.kt_order.specs.Machine.{Code}
use Rattle.kt_order.specs.Rest.{left}
use Rattle.kt_prog.specs.Accepted.{IsAccepted}
use Rattle.kt_prog.specs.Calls.{CallTree, Whole}
use Rattle.kt_prog.specs.Fits.{Fits}
use Rattle.kt_prog.specs.Reference.{Placed, machine_of}
use Rattle.kt_words.specs.declared.layouts.TheConstants.{RECORDS}
use Rattle.kt_rule.specs.declared.views.Setup.{Setup}
use Rattle.kt_rule.specs.declared.views.Berth.{Berth}
use Rattle.kt_rule.specs.declared.views.Execution.{Execution}
use Rattle.kt_rule.specs.declared.views.View.{View}
use Rattle.kt_rule.specs.Facts.{task_in}
use Rattle.kt_rule.specs.Rule.{Slots}
use Rattle.kt_rule.specs.Steps.{next_of, draws_one, Draws, knows_stop, published, IsBehind}
use Rattle.kt_tasks.specs.declared.publications.Published.{Published}
use Rattle.kt_tasks.specs.declared.publications.Published.TheVariants as P

-- the running body, whose task lies in the record `parent`, forks this child next, and the record `at` is the next one
-- of its frame
pub record MayPublish (v : View) (parent at frame fork : ℕ) (child : CallTree) : Type 0 where
  pub setup : Setup
  pub told : v.setup ≡ Some setup
  pub accepted : IsAccepted setup.program
  pub head : Execution
  pub rest : List Execution
  pub runs : v.tasks.running ≡ head ∷ rest
  pub lies : head.spot.berth.at ≡ parent
  pub forks : Placed
  pub more : Code (machine_of setup.program)
  pub next : left (machine_of setup.program) (task_in setup head) ≡ Fork forks more
  pub calls : forks.job ≡ Whole child
  pub numbered : fork ≡ suc head.forks
  -- the frame is the topmost one of the seat
  pub framed : frame ≡ head.frame
  pub topmost : head.frame ≡ v.tasks.begun
  -- the first record that is free, or the first number behind the region
  pub free : at ≡ next_of v
  pub behind : IsBehind v head
  -- no earlier draw was over the limit, no number is in hand, and no field of the next record is set
  pub within : v.draws.over ≡ 0
  pub none : v.draws.hands ≡ []
  pub unset : v.region.built ≡ []

-- where the child lies, and what its record says of it
abbrev pub berth_of : ℕ → ℕ → ℕ → ℕ → CallTree → ℕ → Berth
berth_of parent at frame fork child number =
    record { at = at; frame = frame; fork = fork; number = number; parent = suc parent; call = child }

-- the draw for the next fork of the running body was over the limit: its number stays in hand, and the run stops
abbrev pub halted : View → Execution → View
halted v e = knows_stop (draws_one v e 1)

-- the view afterwards; a number that was drawn counts the tasks that were published before, those of the seat among them
abbrev pub HasPublished : View → ℕ → ℕ → ℕ → ℕ → CallTree → View → Published → Type 0
HasPublished v parent at frame fork child w (P.Published number) =
    ((e : Execution) (rest : List Execution) → v.tasks.running ≡ e ∷ rest
    → w ≡ published v e rest (berth_of parent at frame fork child number))
    × (length w.region.spots ≤ RECORDS) × (length v.region.mine ≤ number) × (number < TASKS)
HasPublished v parent at frame fork child w (P.Limit count) =
    ((e : Execution) (rest : List Execution) → v.tasks.running ≡ e ∷ rest → w ≡ halted v e)
    × (TASKS < count) × (count ≤ TASKS + WORKERS)

-- what a draw tells of the seat that makes it, where it finds so many numbers drawn
pub record AreCounted (v : View) (n : ℕ) : Type 0 where
  -- each seat goes over the limit once at most
  pub few : v.draws.over ≡ 0 → n < TASKS + WORKERS
  pub mine : length v.region.mine ≤ n
  -- a number below the limit is for a record that is there
  pub room : n < TASKS → length v.region.spots < RECORDS
  pub frames : v.tasks.begun ≤ TASKS + WORKERS
  pub forks : (e : Execution) (rest : List Execution) → v.tasks.running ≡ e ∷ rest → e.forks ≤ RECORDS
  pub crew : (j : Setup) → v.setup ≡ Some j → v.worker < j.workers
  -- what the running body forks is a call that the program may make
  pub fits : (j : Setup) → v.setup ≡ Some j → (e : Execution) (rest : List Execution) → v.tasks.running ≡ e ∷ rest
      → (c : Placed) (more : Code (machine_of j.program)) → left (machine_of j.program) (task_in j e) ≡ Fork c more
      → (call : CallTree) → c.job ≡ Whole call → Fits j.program call

abbrev pub DrawsNext : Step Slots → View → ℕ → View → Type 0
DrawsNext st v n w = ((e : Execution) (rest : List Execution) → v.tasks.running ≡ e ∷ rest → Draws e st v n w) × AreCounted v n
