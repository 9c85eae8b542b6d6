-- Nothing follows the indexes of a loop.
use Rattle.std.proofs.Common.{◌≡◌, ◌≢◌, ◌<◌, ℕ, zero, suc, ◌-◌, Bool, true, false, List, [], ◌∷◌, Option, Some, None, ◌⊎◌, inl, inr, refl, sym, ap, subst, ◌∙◌, arith, nat_lt, if◌then◌else◌}
use Rattle.kt_law.specs.Acts.{Act}
use Rattle.kt_law.specs.declared.limits.TheConstants.{DEFINITIONS}
use Rattle.kt_order.specs.Body.{Keeps, Stop, Do, Fork}
use Rattle.kt_order.specs.Laws.{Acts}
use Rattle.kt_prog.specs.Calls.{CallTree, Job, Whole, Index}
use Rattle.kt_prog.specs.Script.{Script, Step, ◌>>=◌, give, fork}
use Rattle.kt_prog.specs.Zeroing.{zero_all}
use Rattle.kt_prog.specs.Bodies.{script_with, script_of, indexes, task_at, index_in, task_or_loop, call_body}
use Rattle.kt_prog.specs.Kernels.{kernel_body}
use Rattle.kt_prog.specs.Targets.{Target, target, is_loop_of, mul, minplus, stencil, scan}
use Rattle.kt_prog.specs.Fits.{task_target, kernel_at, target_at, Fits, is_main, is_call, FitsJob}
use Rattle.kt_prog.specs.Rights as K
use Rattle.kt_prog.specs.Rights.{Forks}
use Rattle.kt_prog.specs.Reference.{placed, machine_of}
use Rattle.kt_prog.specs.declared.programs.Program.{Program}
use Rattle.kt_prog.specs.declared.programs.Task.{Task}
use Rattle.kt_prog.specs.declared.programs.Index as I
use Rattle.kt_rights.specs.Rights.{EndsWithIndexes}
use Rattle.kt_runs.specs.Plans.{plan_of}
use Rattle.kt_runs.proofs.Zeroes.{behind_zeroing}
use Rattle.kt_prog.specs.Objects.{width_of}

false_true : false ≡ true → ⊥
false_true h = cc

module _ (p : Program) where
  abbrev EndsAt : List ℕ → ℕ → Script → Type 0
  EndsAt path k w = EndsWithIndexes (plan_of p) (placed path k w)

  -- of a call that forks no indexes
  plain_ends : (c : CallTree) → c.length ≡ 0 → (path : List ℕ) (k : ℕ) (w : Script) → Keeps (K.Directly p (Whole c)) (Forks p (Whole c)) w
      → EndsAt path k w
  plain_ends c none path k (Stop f) keeps = tt
  plain_ends c none path k (Do q next) keeps = λ a. plain_ends c none path k (next a) (keeps.1 a)
  plain_ends c none path k (Fork (Whole d) w) keeps = (inl refl, plain_ends c none path (suc k) w keeps.1)
  plain_ends c none path k (Fork (Index d i) w) keeps = let lt : i < c.length = keeps.0.1 in absurd (omega (arith, lt, none))

  -- an index forks nothing
  index_ends : (c : CallTree) (i : ℕ) (path : List ℕ) (k : ℕ) (w : Script) → Keeps (K.Directly p (Index c i)) (Forks p (Index c i)) w
      → EndsAt path k w
  index_ends c i path k (Stop f) keeps = tt
  index_ends c i path k (Do q next) keeps = λ a. index_ends c i path k (next a) (keeps.1 a)
  index_ends c i path k (Fork child w) keeps = absurd keeps.0

  -- a loop: its zeroing, and then its indexes
  module _ (c : CallTree) (path : List ℕ) where
    no_acts : (P : Act → Type 0) (k i n : ℕ) → Acts (machine_of p) P (placed path k (indexes c i n (λ _. Stop None)))
    unfolding ◌>>=◌ fork give
    no_acts P k i zero = tt
    no_acts P k i (suc n) = no_acts P (suc k) (suc i) n

    indexes_end : (k i n : ℕ) → EndsAt path k (indexes c i n (λ _. Stop None))
    unfolding ◌>>=◌ fork give
    indexes_end k i zero = tt
    indexes_end k i (suc n) = (inr (no_acts (λ q. ⊥) (suc k) (suc i) n), indexes_end (suc k) (suc i) n)

    looped : (call : Step (Unit {0})) → call ≡ indexes c 0 c.length
        → EndsAt path 1 ((zero_all (width_of p.families) c.accesses >>= (λ _. call)) (λ _. Stop None))
    looped call is = behind_zeroing p (EndsAt path 1) (λ q next h. h) c.accesses call
        (subst (λ (s : Step (Unit {0})). EndsAt path 1 (s (λ _. Stop None))) (sym is) (indexes_end 1 0 c.length))

  loop_at : (tasks : List Task) (first k : ℕ) (t : Target) → task_target tasks first k ≡ Some t → t.is_loop ≡ true
      → (x : I.Index) × (index_in (task_at tasks k) ≡ Some x)
  loop_at [] first k t h l = cc
  loop_at (u ∷ tasks) first zero t h l = there u.index (let same : target first u ≡ t = cc in ap (λ (y : Target). y.is_loop) same ∙ l)
    where
      there : (index : Option I.Index) → is_loop_of index ≡ true → (x : I.Index) × (index ≡ Some x)
      there None e = cc
      there (Some x) e = (x, refl)
  loop_at (u ∷ tasks) first (suc k) t h l = loop_at tasks (suc first) k t h l

  no_kernel_loop : (k : ℕ) (t : Target) → kernel_at k ≡ Some t → t.is_loop ≡ true → ⊥
  no_kernel_loop zero t h l = let same : mul ≡ t = cc in false_true (ap (λ (y : Target). y.is_loop) same ∙ l)
  no_kernel_loop (suc zero) t h l = let same : minplus ≡ t = cc in false_true (ap (λ (y : Target). y.is_loop) same ∙ l)
  no_kernel_loop (suc (suc zero)) t h l = let same : stencil ≡ t = cc in false_true (ap (λ (y : Target). y.is_loop) same ∙ l)
  no_kernel_loop (suc (suc (suc zero))) t h l = let same : scan ≡ t = cc in false_true (ap (λ (y : Target). y.is_loop) same ∙ l)
  no_kernel_loop (suc (suc (suc (suc k)))) t h l = cc

  -- a call with a length does its indexes
  loop_body : (c : CallTree) (t : Target) (n : ℕ) → target_at p.tasks n ≡ Some t → t.is_loop ≡ true
      → call_body (λ w. w) p c n ≡ indexes c 0 c.length
  loop_body c t zero is l = cc
  loop_body c t (suc k) is l =
      chosen (nat_lt k DEFINITIONS) (task_target p.tasks 1 k) (kernel_at (k - DEFINITIONS)) (index_in (task_at p.tasks k)) is
      (λ h. loop_at p.tasks 1 k t h l) (λ h. no_kernel_loop (k - DEFINITIONS) t h l)
    where
      chosen : (b : Bool) (x y : Option Target) (z : Option I.Index) → (if b then x else y) ≡ Some t
          → (x ≡ Some t → (i : I.Index) × (z ≡ Some i)) → (y ≡ Some t → ⊥)
          → (if b then task_or_loop (λ w. w) p c (task_at p.tasks k) z else kernel_body (width_of p.families) (k - DEFINITIONS) c.ints c.accesses)
          ≡ indexes c 0 c.length
      chosen true x y z h f g = ap (task_or_loop (λ w. w) p c (task_at p.tasks k)) (f h).1
      chosen false x y z h f g = absurd (g h)

  is_loop_call : (c : CallTree) (t : Target) → (t.is_loop ≡ false → c.length ≡ 0) → c.length ≢ 0 → t.is_loop ≡ true
  is_loop_call c t formed ne = by_bool t.is_loop refl
    where
      by_bool : (b : Bool) → t.is_loop ≡ b → b ≡ true
      by_bool true e = refl
      by_bool false e = absurd (ne (formed e))

  loop_ends : (c : CallTree) (path : List ℕ) → c.length ≢ 0 → Fits p c → EndsAt path 1 (script_of p (Whole c))
  unfolding script_with
  loop_ends c path ne (is_main main) = absurd (ne (ap (λ (x : CallTree). x.length) main))
  loop_ends c path ne (is_call t is f) = looped c path (call_body (λ w. w) p c c.task) (loop_body c t c.task is (is_loop_call c t f.formed ne))

  none_or : (n : ℕ) → (n ≡ 0) ⊎ (n ≢ 0)
  none_or n = grind arith

  pub ends : (path : List ℕ) (job : Job) → FitsJob p job → Keeps (K.Directly p job) (Forks p job) (script_of p job)
      → EndsAt path 1 (script_of p job)
  ends path (Whole c) fits keeps = elim (none_or c.length) [
    | inl none ↦ plain_ends c none path 1 (script_of p (Whole c)) keeps
    | inr some ↦ loop_ends c path some fits
  ]
  ends path (Index c i) fits keeps = index_ends c i path 1 (script_of p (Index c i)) keeps
