-- What holds of each call that a body may fork holds of each that it has forked; a task that is no loop forks calls alone.
use Rattle.std.proofs.Common.{◌≡◌, ◌<◌, ◌-◌, ℕ, zero, suc, Bool, true, false, List, [], ◌∷◌, Option, Some, None, refl, sym, ap, subst, ◌∙◌, arith, is_some, nat_lt, if◌then◌else◌}
use Rattle.kt_law.specs.declared.limits.TheConstants.{DEFINITIONS}
use Rattle.kt_order.specs.Lists.{AllOf}
use Rattle.kt_order.specs.Body.{Keeps, Stop, Do, Fork}
use Rattle.kt_order.specs.Machine.{Code}
use Rattle.kt_order.specs.Trace.{hearing}
use Rattle.kt_order.specs.Stand.{Standing, stand}
use Rattle.kt_order.proofs.Stands.{stand_none, fork_some}
use Rattle.kt_prog.specs.Calls.{CallTree, Whole, Index, index_of}
use Rattle.kt_prog.specs.Script.{Script}
use Rattle.kt_prog.specs.Bodies.{task_at, index_in}
use Rattle.kt_prog.specs.Operations.{is_loop_at}
use Rattle.kt_prog.specs.Targets.{Target, is_loop_of}
use Rattle.kt_prog.specs.Fits.{Fits, is_main, is_call, task_target, kernel_at, target_at}
use Rattle.kt_prog.specs.Rights as K
use Rattle.kt_prog.specs.Rights.{Forks}
use Rattle.kt_prog.specs.Reference.{Placed, placed, machine_of}
use Rattle.kt_prog.specs.declared.programs.Program.{Program}
use Rattle.kt_prog.specs.declared.programs.Task as T
use Rattle.kt_prog.specs.declared.programs.Index as I

pub the_some : {X : Type 0} → {x y : X} → Some x ≡ Some y → x ≡ y
the_some e = cc

module _ (p : Program) where
  -- each fork of the body has P
  abbrev pub Each : (Placed → Type 0) → Code (machine_of p) → Type 0
  Each P (Stop f) = Unit {0}
  Each P (Do q k) = (a : ℕ) → Each P (k a)
  Each P (Fork c w) = P c × Each P w

  abbrev OfForks : (Placed → Type 0) → Standing (machine_of p) → Type 0
  OfForks P st = AllOf P st.forks

  pub stand_each : (P : Placed → Type 0) (w : Code (machine_of p)) (answers : List ℕ) (n : ℕ) (st : Standing (machine_of p))
      → stand (machine_of p) w answers n ≡ Some st → Each P w → OfForks P st
  stand_each P w answers zero st e each = subst (OfForks P) (sym (stand_none (machine_of p) w answers st e).1) tt
  stand_each P (Stop f) [] (suc zero) st e each = subst (OfForks P) (the_some e) tt
  stand_each P (Stop f) [] (suc (suc n)) st e each = absurd (cc e)
  stand_each P (Stop f) (a ∷ more) (suc n) st e each = absurd (cc e)
  stand_each P (Do q k) answers (suc n) st e each = heard ((machine_of p).asks q) answers e (λ a more h. stand_each P (k a) more n st h (each a))
    where
      heard : (asks : Bool) (answers : List ℕ) → hearing (machine_of p) asks None (λ a more. stand (machine_of p) (k a) more n) answers ≡ Some st
          → ((a : ℕ) (more : List ℕ) → stand (machine_of p) (k a) more n ≡ Some st → OfForks P st) → OfForks P st
      heard true [] h f = absurd (cc h)
      heard true (a ∷ more) h f = f a more h
      heard false answers h f = f 0 answers h
  stand_each P (Fork c w) answers (suc n) st e each =
      let s = fork_some (machine_of p) c (stand (machine_of p) w answers n) st e in
      subst (OfForks P) (sym s.2) (each.0, stand_each P w answers n s.0 s.1 each.1)

  -- a call that is no loop's has no length
  abbrev loop_in : Option Target → Bool
  loop_in None = false
  loop_in (Some t) = t.is_loop

  kernel_none : (k : ℕ) → loop_in (kernel_at k) ≡ false
  kernel_none zero = refl
  kernel_none (suc zero) = refl
  kernel_none (suc (suc zero)) = refl
  kernel_none (suc (suc (suc zero))) = refl
  kernel_none (suc (suc (suc (suc k)))) = refl

  no_index : (o : Option I.Index) → is_some o ≡ false → is_loop_of o ≡ false
  no_index None h = refl
  no_index (Some i) h = absurd (cc h)

  task_is : (tasks : List T.Task) (number k : ℕ) (t : Target) → task_target tasks number k ≡ Some t → is_some (index_in (task_at tasks k)) ≡ false
      → t.is_loop ≡ false
  task_is [] number k t e none = absurd (cc e)
  task_is (u ∷ tasks) number zero t e none = sym (ap (λ (o : Target). o.is_loop) (the_some e)) ∙ no_index u.index none
  task_is (u ∷ tasks) number (suc k) t e none = task_is tasks (suc number) k t e none

  target_is : (n : ℕ) (t : Target) → target_at p.tasks n ≡ Some t → is_loop_at p n ≡ false → t.is_loop ≡ false
  target_is zero t e none = absurd (cc e)
  target_is (suc k) t e none = by (nat_lt k DEFINITIONS) e none
    where
      by : (b : Bool) → (if b then task_target p.tasks 1 k else kernel_at (k - DEFINITIONS)) ≡ Some t
          → (if b then is_some (index_in (task_at p.tasks k)) else false) ≡ false → t.is_loop ≡ false
      by true e none = task_is p.tasks 1 k t e none
      by false e none = ap loop_in (sym e) ∙ kernel_none (k - DEFINITIONS)

  pub no_length : (call : CallTree) → Fits p call → is_loop_at p call.task ≡ false → call.length ≡ 0
  no_length call (is_main e) none = ap (λ (c : CallTree). c.length) e
  no_length call (is_call t is fits) none = fits.formed (target_is call.task t is none)

  -- so its body forks calls alone
  abbrev pub IsCallOf : Placed → Type 0
  IsCallOf c = index_of c.job ≡ None

  pub calls_only : (c : CallTree) → c.length ≡ 0 → (path : List ℕ) (k : ℕ) (w : Script) → Keeps (K.Directly p (Whole c)) (Forks p (Whole c)) w
      → Each IsCallOf (placed path k w)
  calls_only c none path k (Stop f) keeps = tt
  calls_only c none path k (Do q next) keeps = λ a. calls_only c none path k (next a) (keeps.1 a)
  calls_only c none path k (Fork (Whole d) w) keeps = (refl, calls_only c none path (suc k) w keeps.1)
  calls_only c none path k (Fork (Index d i) w) keeps = let lt : i < c.length = keeps.0.1 in absurd (omega (arith, lt, none))
