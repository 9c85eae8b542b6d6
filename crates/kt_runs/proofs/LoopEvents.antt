-- Where the events of a loop are done, and what they leave at their places.
use Rattle.std.proofs.Common.{◌≡◌, ◌≢◌, ℕ, zero, suc, true, None, refl}
use Rattle.kt_order.specs.Lists.{AllOf}
use Rattle.kt_order.specs.Body.{Stop, Do, Fork}
use Rattle.kt_order.specs.Machine.{Machine, Code}
use Rattle.kt_order.specs.Forest.{Place}
use Rattle.kt_order.specs.Events.{Event}
use Rattle.kt_order.specs.Loops.{child, event_place, begin_events, take_events, index_events}
use Rattle.kt_prog.specs.Calls.{Job, Whole, Index, index_of}
use Rattle.kt_prog.specs.Reference.{machine_of}
use Rattle.kt_prog.specs.declared.programs.Program.{Program}
use Rattle.kt_runs.specs.States.{Core}
use Rattle.kt_runs.specs.CoreEvents.{is_loop_job, IsLooping, TaskAt}
use Rattle.kt_order.proofs.Ats.{at_more}

pub begin_places : (q : Place) (n : ℕ) → AllOf (λ e. event_place e ≡ q) (begin_events q n)
begin_places q zero = (refl, tt)
begin_places q (suc n) = (refl, begin_places q n)

pub begin_elsewhere : (q r : Place) → q ≢ r → (n : ℕ) → AllOf (λ e. event_place e ≢ r) (begin_events q n)
begin_elsewhere q r ne zero = (ne, tt)
begin_elsewhere q r ne (suc n) = (ne, begin_elsewhere q r ne n)

-- at an index of the loop
abbrev pub IsChild : Place → Event → Type 0
IsChild q e = (i : ℕ) × (event_place e ≡ child q i)

pub take_places : (q : Place) (at n : ℕ) → AllOf (IsChild q) (take_events q at n)
take_places q at zero = tt
take_places q at (suc n) = ((at, refl), take_places q (suc at) n)

pub index_places : (m : Machine) (w : Code m) (q : Place) (i : ℕ) → AllOf (IsChild q) (index_events m w q i)
index_places m (Stop f) q i = ((i, refl), ((i, refl), tt))
index_places m (Do a k) q i = ((i, refl), tt)
index_places m (Fork c w) q i = ((i, refl), tt)

module _ (p : Program) where
  pub loop_is_call : (job : Job) → is_loop_job p job ≡ true → index_of job ≡ None
  loop_is_call (Whole call) h = refl
  loop_is_call (Index call i) h = cc

  -- a loop stands at the place
  abbrev pub LoopThere : Place → Core p → Type 0
  LoopThere q x = TaskAt p (λ u. is_loop_job p u.call.job ≡ true) q x

  pub looping_there : (q : Place) (x : Core p) → TaskAt p (IsLooping p) q x → LoopThere q x
  looping_there q x at = at_more (machine_of p) (λ u kids. IsLooping p u) (λ u kids. is_loop_job p u.call.job ≡ true) (λ u kids h. h.0) q x.forest at
