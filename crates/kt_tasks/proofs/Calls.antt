-- The numbers of a call that a program may make fit the words of a record.
use Rattle.std.proofs.Common.{◌≡◌, ℕ, zero, suc, ◌+◌, ◌-◌, ◌^◌, ◌<◌, ◌≤◌, Bool, true, false, List, [], ◌∷◌, sym, refl, ap, ◌∙◌, subst, arith, Some, nat_lt, if◌then◌else◌}
use mathlib.Core.Option.{some, some-injective, some-ne-none}
use lib.ListN.{get_elem?}
use Rattle.kt_law.specs.declared.limits.TheConstants.{DEFINITIONS, OBJECTS}
use Rattle.kt_law.specs.declared.accesses.Access.{Access}
use Rattle.kt_rights.specs.Rights.{EachOf}
use Rattle.kt_prog.specs.Accepted.{IsAccepted}
use Rattle.kt_prog.specs.Calls.{CallTree}
use Rattle.kt_prog.specs.Fits.{Fits, is_main, is_call, AreGiven, GivenOne, Inside, kernel_at, task_target, target_at}
use Rattle.kt_prog.specs.Objects.{objects_of}
use Rattle.kt_prog.specs.Targets.{Target}
use Rattle.kt_prog.specs.declared.programs.Program.{Program}
use Rattle.kt_prog.specs.declared.programs.Task.{Task}
use Rattle.kt_prog.specs.declared.programs.Sort.{Sort}
use Rattle.kt_prog.specs.declared.programs.Sort.TheVariants as S
use Rattle.kt_prog.proofs.Plain.{parts}
use Rattle.kt_words.specs.Words.{IsAccess}
use Rattle.kt_words.specs.declared.layouts.Layout.{Layout}
use Rattle.kt_tasks.specs.Fields.{IsWritable}

pub fits_short : (p : Program) (call : CallTree) → Fits p call → call.length < 2 ^ 32
fits_short p call (is_main e) = subst (λ (c : CallTree). c.length < 2 ^ 32) (sym e) (omega arith)
fits_short p call (is_call t at fits) = let a = fits.long in omega arith

deep_enough : (p : Program) (call : CallTree) → Fits p call → call.depth < 2 ^ 6
deep_enough p call (is_main e) = subst (λ (c : CallTree). c.depth < 2 ^ 6) (sym e) (omega arith)
deep_enough p call (is_call t at fits) = let a = fits.deep in omega arith

-- the numbers of tasks, loops and kernels
kernel_low : (k : ℕ) (t : Target) → kernel_at k ≡ Some t → k < 4
kernel_low zero t e = omega arith
kernel_low (suc zero) t e = omega arith
kernel_low (suc (suc zero)) t e = omega arith
kernel_low (suc (suc (suc zero))) t e = omega arith
kernel_low (suc (suc (suc (suc k)))) t e = absurd (cc e)

target_low : (tasks : List Task) (n : ℕ) (t : Target) → target_at tasks n ≡ Some t → n < 2 ^ 16
target_low tasks zero t e = omega arith
target_low tasks (suc k) t e = go (nat_lt k DEFINITIONS) refl e
  where
    go : (b : Bool) → nat_lt k DEFINITIONS ≡ b → (if b then task_target tasks 1 k else kernel_at (k - DEFINITIONS)) ≡ Some t → suc k < 2 ^ 16
    go true d h = let a : k < DEFINITIONS = grind arith in omega arith
    go false d h = let a = kernel_low (k - DEFINITIONS) t h in omega arith

task_low : (p : Program) (call : CallTree) → Fits p call → call.task < 2 ^ 16
task_low p call (is_main e) = subst (λ (c : CallTree). c.task < 2 ^ 16) (sym e) (omega arith)
task_low p call (is_call t at fits) = target_low p.tasks call.task t at

-- the accesses that are given lie in order
abbrev IsOrdered : Access → Type 0
IsOrdered a = a.lo ≤ a.hi

one_ordered : (sort : Sort) (ints : List ℕ) (accesses : List Access) (Rest : List ℕ → List Access → Type 0)
    → ((more : List ℕ) (others : List Access) → Rest more others → EachOf IsOrdered others) → GivenOne sort ints accesses Rest
    → EachOf IsOrdered accesses
one_ordered S.Int [] accesses Rest f h = absurd h
one_ordered S.Int (n ∷ ints) accesses Rest f h = f ints accesses h
one_ordered (S.One mode) ints [] Rest f h = absurd h
one_ordered (S.One mode) ints (a ∷ accesses) Rest f h = let one : a.hi ≡ a.lo + 1 = h.1 in (omega arith, f ints accesses h.2)
one_ordered (S.Many mode) ints [] Rest f h = absurd h
one_ordered (S.Many mode) ints (a ∷ accesses) Rest f h = (h.1, f ints accesses h.2)

given_ordered : (sorts : List Sort) (ints : List ℕ) (accesses : List Access) → AreGiven sorts ints accesses → EachOf IsOrdered accesses
given_ordered [] ints accesses h = subst (EachOf IsOrdered) (sym h.1) tt
given_ordered (s ∷ sorts) ints accesses h = one_ordered s ints accesses (AreGiven sorts) (given_ordered sorts) h

each_fits : (objects : ℕ) (accesses : List Access) → objects ≤ OBJECTS → EachOf IsOrdered accesses → EachOf (Inside objects) accesses
    → (k : ℕ) (a : Access) → get_elem? accesses k ≡ some a → IsAccess a × (a.hi ≤ objects)
each_fits objects [] few ordered within k a e = absurd (some-ne-none a (sym e))
each_fits objects (x ∷ xs) few ordered within zero a e = subst (λ (z : Access). IsAccess z × (z.hi ≤ objects)) (some-injective x a e)
    (let b = ordered.0 in let c = within.0 in (record { ordered = b; hi_fits = omega arith }, c))
each_fits objects (x ∷ xs) few ordered within (suc k) a e = each_fits objects xs few ordered.1 within.1 k a e

accesses_fit : (p : Program) (call : CallTree) → IsAccepted p → Fits p call → (k : ℕ) (a : Access)
    → get_elem? call.accesses k ≡ some a → IsAccess a × (a.hi ≤ objects_of p.families)
accesses_fit p call ok (is_main e) k a is = absurd (some-ne-none a (sym (ap (λ (c : CallTree). get_elem? c.accesses k) (sym e) ∙ is)))
accesses_fit p call ok (is_call t at fits) k a is = each_fits (objects_of p.families) call.accesses (parts p ok).small.0
    (given_ordered t.sorts call.ints call.accesses fits.given) fits.inside k a is

pub writable : (p : Program) (call : CallTree) (l : Layout) (number : ℕ) → IsAccepted p → Fits p call → l.objects ≡ objects_of p.families
    → number < 2 ^ 26 → IsWritable l number call
writable p call l number ok fits objects small = record {
  task = task_low p call fits;
  depth = deep_enough p call fits;
  number_fits = small;
  accesses = λ k a is. let h = accesses_fit p call ok fits k a is in (h.0, (let b = h.1 in omega arith));
}
