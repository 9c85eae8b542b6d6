-- Bodies that end without a fault, whatever their loads find.
use Rattle.std.proofs.Common.{◌≡◌, ℕ, ◌+◌, Bool, true, false, None, sym, subst}
use Rattle.kt_law.specs.Acts.{Deed}
use Rattle.kt_law.specs.declared.faults.F.{F}
use Rattle.kt_order.specs.Body.{Stop, Do, Fork}
use Rattle.kt_prog.specs.Calls.{Job, Whole, Index}
use Rattle.kt_prog.specs.Script.{Script, Step, ◌>>=◌, give, load, perform, tested}

-- the tasks and the indexes of a call that forks nothing but its own indexes
abbrev pub tasks_in : Job → ℕ
tasks_in (Whole call) = 1
tasks_in (Index call i) = 0

abbrev pub indexes_in : Job → ℕ
indexes_in (Whole call) = call.length
indexes_in (Index call i) = 1

module _ (Q : Job → Type 0) where
  -- the body has no fault, and it forks calls that have Q, with so many tasks and indexes
  abbrev pub Quiet : ℕ → ℕ → Script → Type 0
  Quiet t i (Stop f) = (f ≡ None) × (t ≡ 0) × (i ≡ 0)
  Quiet t i (Do act next) = (a : ℕ) → Quiet t i (next a)
  Quiet t i (Fork job next) = (n : ℕ) × (j : ℕ) × (t ≡ tasks_in job + n) × (i ≡ indexes_in job + j) × Q job × Quiet n j next

  pub quiet_as : (n j t i : ℕ) (w : Script) → t ≡ n → i ≡ j → Quiet n j w → Quiet t i w
  quiet_as n j t i w e f h = subst (λ (t : ℕ). Quiet t i w) (sym e) (subst (λ (i : ℕ). Quiet n i w) (sym f) h)

  -- a step without a fault that forks nothing, and gives a value with P
  pub record Calm {A : Type 0} (P : A → Type 0) (m : Step A) : Type 0 where
    pub rest : (n j : ℕ) (go : A → Script) → ((x : A) → P x → Quiet n j (go x)) → Quiet n j (m go)

  abbrev pub Any : {A : Type 0} → A → Type 0
  Any x = Unit {0}

  pub calm_give : {A : Type 0} (P : A → Type 0) (x : A) → P x → Calm P (give x)
  unfolding give
  calm_give P x h = record { rest = λ n j go k. k x h }

  pub calm_then : {A B : Type 0} (P : A → Type 0) (R : B → Type 0) (m : Step A) (f : A → Step B) → Calm P m → ((x : A) → P x → Calm R (f x))
      → Calm R (m >>= f)
  unfolding ◌>>=◌
  calm_then P R m f h k = record { rest = λ n j go l. h.rest n j (λ x. f x go) (λ x p. (k x p).rest n j go l) }

  pub calm_test : (b : Bool) (law : F) (line : ℕ) → b ≡ true → Calm Any (tested b law line)
  calm_test true law line e = calm_give Any tt tt
  calm_test false law line e = cc

  pub calm_load : (object element : ℕ) → Calm (λ (x : ℕ). Unit {0}) (load object element)
  unfolding load
  calm_load object element = record { rest = λ n j go k. λ a. k a tt }

  pub calm_perform : (object element : ℕ) (deed : Deed) → Calm Any (perform object element deed)
  unfolding perform
  calm_perform object element deed = record { rest = λ n j go k. λ a. k tt tt }
