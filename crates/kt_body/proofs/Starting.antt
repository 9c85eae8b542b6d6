-- What a body starts with.
use Rattle.std.proofs.Common.{◌≡◌, ◌≢◌, ◌≤◌, ◌<◌, ℕ, zero, suc, ◌+◌, ◌-◌, true, false, List, [], ◌∷◌, ◌++◌, length, get_or, Option, Some, None, Result, Ok, Err, is_some, refl, sym, ap, ◌∙◌, arith, sub-one, nat_lt}
use Rattle.std.proofs.lemmas.Bool.Decides.{nat_tests}
use Rattle.std.proofs.lemmas.List.{length-append}
use Rattle.kt_law.specs.declared.accesses.Access.{Access}
use Rattle.kt_law.specs.declared.limits.TheConstants.{DEFINITIONS, OBJECTS, STEPS}
use Rattle.kt_order.specs.Body.{Stop}
use Rattle.kt_prog.specs.Accepted.{IsAccepted}
use Rattle.kt_prog.specs.Bodies.{call_body, index_body, index_in, job_body, main_body, script_of, script_with, site_of, statements, task_at, task_body, task_or_loop, with_index}
use Rattle.kt_prog.specs.Calls.{CallTree, Job, Whole, Index}
use Rattle.kt_prog.specs.Locals.{given}
use Rattle.kt_rights.specs.Rights.{EachOf}
use Rattle.kt_prog.specs.Fits.{AreGiven, Fits, GivenOne, Inside, is_call, is_main}
use Rattle.kt_prog.specs.Objects.{objects_of}
use Rattle.kt_prog.specs.Operations.{end_of, is_loop_at}
use Rattle.kt_prog.specs.Script.{Step, ◌>>=◌, give}
use Rattle.kt_prog.specs.Statements.{State}
use Rattle.kt_prog.specs.declared.programs.Index as I
use Rattle.kt_prog.specs.declared.programs.Main.{Main}
use Rattle.kt_prog.specs.declared.programs.Program.{Program}
use Rattle.kt_prog.specs.declared.programs.Sort.{Sort}
use Rattle.kt_prog.specs.declared.programs.Sort.TheVariants as S
use Rattle.kt_prog.specs.declared.programs.Task.{Task}
use Rattle.kt_prog.specs.declared.runs.Operation.{Operation}
use Rattle.kt_prog.specs.declared.runs.Operation.TheVariants as O
use Rattle.kt_prog.specs.declared.scope.Local.{Local}
use Rattle.kt_prog.proofs.Forms.{task_there, task_not_there}
use Rattle.kt_prog.proofs.Plain.{few_objects}
use Rattle.kt_body.specs.Moves.{Ran, RanTo}
use Rattle.kt_body.specs.Starts.{IsTask, StartsLow, given_body}
use Rattle.kt_body.specs.declared.ops.Early.{Early}
use Rattle.kt_body.proofs.Astray.{astray_is}
use Rattle.kt_body.proofs.Steps.{ran_err, ran_give, ran_then}

pub grown : (ls after : List Local) (l : Local) (n : ℕ) → after ≡ ls ++ l ∷ [] → length ls ≤ n → length after ≤ n + 1
grown ls after l n e h = rw (e, length-append ls (l ∷ [])) (omega arith)

pub each_low : (xs : List Access) (j : ℕ) (d : Access) → EachOf StartsLow xs → j < length xs → (get_or xs j d).lo ≤ OBJECTS
each_low [] j d h k = absurd (omega arith)
each_low (x ∷ xs) zero d (a, b) k = a
each_low (x ∷ xs) (suc j) d (a, b) k = each_low xs j d b (omega arith)

abbrev IsOrdered : Access → Type 0
IsOrdered a = a.lo ≤ a.hi

one_ordered : (sort : Sort) (ints : List ℕ) (accesses : List Access) (Rest : List ℕ → List Access → Type 0)
    → ((ints' : List ℕ) (accesses' : List Access) → Rest ints' accesses' → EachOf IsOrdered accesses') → GivenOne sort ints accesses Rest → EachOf IsOrdered accesses
one_ordered S.Int [] accesses Rest f h = absurd h
one_ordered S.Int (n ∷ ints) accesses Rest f h = f ints accesses h
one_ordered (S.One mode) ints [] Rest f h = absurd h
one_ordered (S.One mode) ints (a ∷ accesses) Rest f h =
    let one : a.hi ≡ a.lo + 1 = h.1 in
    (omega arith, f ints accesses h.2)
one_ordered (S.Many mode) ints [] Rest f h = absurd h
one_ordered (S.Many mode) ints (a ∷ accesses) Rest f h = (h.1, f ints accesses h.2)

given_ordered : (sorts : List Sort) (ints : List ℕ) (accesses : List Access) → AreGiven sorts ints accesses → EachOf IsOrdered accesses
given_ordered [] ints accesses h = rw h.1 tt
given_ordered (s ∷ sorts) ints accesses h = one_ordered s ints accesses (AreGiven sorts) (given_ordered sorts) h

ordered_low : (objects : ℕ) (xs : List Access) → objects ≤ OBJECTS → EachOf IsOrdered xs → EachOf (Inside objects) xs → EachOf StartsLow xs
ordered_low objects [] few h k = tt
ordered_low objects (a ∷ xs) few (h, hs) (k, ks) = (omega arith, ordered_low objects xs few hs ks)

pub fits_low : (p : Program) (call : CallTree) → IsAccepted p → Fits p call → EachOf StartsLow call.accesses
fits_low p call ok (is_main e) = rw e tt
fits_low p call ok (is_call t is f) =
    ordered_low (objects_of p.families) call.accesses (few_objects p ok).0 (given_ordered t.sorts call.ints call.accesses f.given) f.inside

pub no_mains : (p : Program) (mains : List Main) → length mains ≡ 0 → main_body (λ w. w) p mains ≡ give tt
no_mains p [] h = astray_is tt
no_mains p (m ∷ mains) h = absurd (omega (arith, h))

module _ (p : Program) (call : CallTree) where
  no_index : (t : Option Task) (x : Option I.Index) → is_some x ≡ false → task_or_loop (λ w. w) p call t x ≡ task_body (λ w. w) p call t
  no_index t None h = refl
  no_index t (Some x) h = cc

  task_call : (n : ℕ) → n ≢ 0 → is_loop_at p n ≡ false → n ≤ DEFINITIONS → call_body (λ w. w) p call n ≡ task_body (λ w. w) p call (task_at p.tasks (n - 1))
  task_call zero h single few = absurd (h refl)
  task_call (suc k) h single few =
      let e : nat_lt k DEFINITIONS ≡ true = grind (arith, nat_tests) in
      let none : is_some (index_in (task_at p.tasks k)) ≡ false = rw e at single in
      rw (e, sub-one) (no_index (task_at p.tasks k) (index_in (task_at p.tasks k)) none)

  pub called : (n : ℕ) (t : Task) → n ≡ call.task → n ≢ 0 → IsTask p call → n - 1 < length p.tasks → t ≡ get_or p.tasks (n - 1) t
      → call_body (λ w. w) p call call.task ≡ task_body (λ w. w) p call (Some t)
  called n t e h k lt is =
      let loop : is_loop_at p n ≡ false = rw e k.no_loop in
      let few : n ≤ DEFINITIONS = rw e k.no_kernel in
      ap (λ (m : ℕ). call_body (λ w. w) p call m) (sym e) ∙ task_call n h loop few
      ∙ ap (λ (x : Option Task). task_body (λ w. w) p call x) (task_there p.tasks (n - 1) t lt is)

  pub called_none : (n : ℕ) → n ≡ call.task → n ≢ 0 → IsTask p call → length p.tasks ≤ n - 1 → call_body (λ w. w) p call call.task ≡ give tt
  called_none n e h k le =
      let loop : is_loop_at p n ≡ false = rw e k.no_loop in
      let few : n ≤ DEFINITIONS = rw e k.no_kernel in
      ap (λ (m : ℕ). call_body (λ w. w) p call m) (sym e) ∙ task_call n h loop few
      ∙ ap (λ (x : Option Task). task_body (λ w. w) p call x) (task_not_there p.tasks (n - 1) le) ∙ astray_is tt

  pub script_is : script_of p (Whole call) ≡ job_body (λ w. w) p (Whole call) (λ z. Stop None)
  unfolding script_with
  script_is = refl

  pub end_is : is_loop_at p call.task ≡ false → end_of p (Whole call) ≡ O.End ∷ []
  end_is h = rw h refl

-- a body that starts has all its steps
pub started : (w : State) → w.steps ≡ STEPS → record { locals = w.locals; steps = STEPS } ≡ w
started w e = rw (← e) refl

module _ (p : Program) (call : CallTree) (i : ℕ) where
  pub index_script : script_of p (Index call i) ≡ index_body (λ w. w) p call i (task_at p.tasks (call.task - 1)) (λ z. Stop None)
  unfolding script_with
  index_script = refl

  pub index_at : (k : ℕ) (t : Task) → k ≡ call.task - 1 → k < length p.tasks → t ≡ get_or p.tasks k t
      → index_body (λ w. w) p call i (task_at p.tasks (call.task - 1)) ≡ index_body (λ w. w) p call i (Some t)
  index_at k t e lt is = rw (← e) (ap (index_body (λ w. w) p call i) (task_there p.tasks k t lt is))

  pub index_nowhere : (k : ℕ) → k ≡ call.task - 1 → length p.tasks ≤ k
      → index_body (λ w. w) p call i (task_at p.tasks (call.task - 1)) ≡ give tt
  index_nowhere k e le = rw (← e) (ap (index_body (λ w. w) p call i) (task_not_there p.tasks k le) ∙ astray_is tt)

  index_first : (x : Option I.Index) (ls : List Local) → with_index x i ls ≡ with_index x i [] ++ ls
  index_first None ls = refl
  index_first (Some index) ls = refl

  pub index_given : (t : Task) (first : List Local) → first ≡ with_index t.index i []
      → index_body (λ w. w) p call i (Some t) ≡ given_body p call first t
  index_given t first e =
      ap (λ (ls : List Local). statements (λ w. w) (site_of p false call.depth) ls t.body)
      (index_first t.index (given t.params call.ints call.accesses) ∙ ap (λ (ls : List Local). ls ++ given t.params call.ints call.accesses) (sym e))

module _ {S : Type 0} (at : S → Program → Job → List ℕ → ℕ → Type 0) (goes : S → Operation → S → Type 0) (halted : S → Type 0) where
  pub ran_behind : (x y : S) (m : Step State) (a : State) (r : Result (Unit {0}) Early) → RanTo at goes halted x m y a r
      → Ran at goes halted x (m >>= (λ s. give tt)) y r
  ran_behind x y m a (Ok done) q = ran_then m (λ s. give tt) q (ran_give y tt)
  ran_behind x y m a (Err e) q = ran_err m (λ s. give tt) q
