-- The k-th task or loop, and what each form of a body says of a call's number.
use Rattle.std.proofs.Common.{◌≡◌, ◌≤◌, ◌<◌, ℕ, zero, suc, Bool, true, false, List, [], ◌∷◌, length, get_or, Some, None, refl, arith, nat_lt, if◌then◌else◌}
use Rattle.std.proofs.lemmas.Bool.Decides.{nat_tests}
use Rattle.kt_law.specs.declared.limits.TheConstants.{DEFINITIONS}
use Rattle.kt_prog.specs.Bodies.{task_at}
use Rattle.kt_prog.specs.Forms.{form_at}
use Rattle.kt_prog.specs.Operations.{is_loop_at}
use Rattle.kt_prog.specs.declared.form.Form.{Form}
use Rattle.kt_prog.specs.declared.form.Form.TheVariants.{Task, Loop, Kernel}
use Rattle.kt_prog.specs.declared.programs.Program.{Program}
use Rattle.kt_prog.specs.declared.programs.Task as T

pub task_there : (tasks : List T.Task) (k : ℕ) (t : T.Task) → k < length tasks → t ≡ get_or tasks k t → task_at tasks k ≡ Some t
task_there [] k t h e = absurd (omega (arith, h))
task_there (x ∷ tasks) zero t h e = rw e refl
task_there (x ∷ tasks) (suc k) t h e = task_there tasks k t (omega (arith, h)) e

pub task_not_there : (tasks : List T.Task) (k : ℕ) → length tasks ≤ k → task_at tasks k ≡ None
task_not_there [] k h = refl
task_not_there (x ∷ tasks) zero h = absurd (omega (arith, h))
task_not_there (x ∷ tasks) (suc k) h = task_not_there tasks k (omega (arith, h))

abbrev Says : Bool → Bool → Form → Type 0
Says kernel loop Task = (kernel ≡ false) × (loop ≡ false)
Says kernel loop Loop = (kernel ≡ false) × (loop ≡ true)
Says kernel loop Kernel = kernel ≡ true

says : (kernel loop : Bool) → Says kernel loop (if kernel then Kernel else if loop then Loop else Task)
says true loop = refl
says false true = (refl, refl)
says false false = (refl, refl)

module _ (p : Program) (number : ℕ) where
  formed : (form : Form) → form ≡ form_at p number → Says (nat_lt DEFINITIONS number) (is_loop_at p number) form
  formed form e = rw e (says (nat_lt DEFINITIONS number) (is_loop_at p number))

  pub form_task : Task ≡ form_at p number → (is_loop_at p number ≡ false) × (number ≤ DEFINITIONS)
  form_task e = let both = formed Task e in let few = both.0 in (both.1, grind (arith, nat_tests, few))

  pub form_loop : Loop ≡ form_at p number → is_loop_at p number ≡ true
  form_loop e = (formed Loop e).1

  pub form_kernel : Kernel ≡ form_at p number → DEFINITIONS < number
  form_kernel e = let more = formed Kernel e in grind (arith, nat_tests, more)

  -- a kernel is no loop
  kernel_single : (n : ℕ) → DEFINITIONS < n → is_loop_at p n ≡ false
  kernel_single zero h = refl
  kernel_single (suc n) h = let past : nat_lt n DEFINITIONS ≡ false = grind (arith, nat_tests, h) in rw past refl

  pub not_loop : (form : Form) → form ≡ form_at p number → (form ≡ Loop → ⊥) → is_loop_at p number ≡ false
  not_loop Task e not = (formed Task e).1
  not_loop Loop e not = absurd (not refl)
  not_loop Kernel e not = kernel_single number (form_kernel e)

  pub not_kernel : (form : Form) → form ≡ form_at p number → (form ≡ Kernel → ⊥) → number ≤ DEFINITIONS
  not_kernel Task e not = (form_task e).1
  not_kernel Loop e not = let few = (formed Loop e).0 in grind (arith, nat_tests, few)
  not_kernel Kernel e not = absurd (not refl)
