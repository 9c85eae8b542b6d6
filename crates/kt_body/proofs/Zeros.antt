-- The equations of the zeroing, and what its trace is.
use Rattle.std.proofs.Common.{◌≡◌, ◌≤◌, ◌<◌, ℕ, zero, suc, ◌+◌, ◌-◌, List, [], ◌∷◌, ◌++◌, length, drop, get_or, None, Ok, Err, refl, sym, ap, ◌∙◌, append-nil, arith, add-one}
use Rattle.std.proofs.lemmas.Grind.{common_steps}
use Rattle.kt_law.specs.Acts.{Store}
use Rattle.kt_law.specs.declared.accesses.Access.{Access}
use Rattle.kt_law.specs.declared.modes.Mode.{Mode}
use Rattle.kt_law.specs.declared.modes.Mode.TheVariants as M
use Rattle.kt_order.specs.Body.{Stop}
use Rattle.kt_prog.specs.Bodies.{script_of, script_with, call_body}
use Rattle.kt_prog.specs.Calls.{CallTree, Job, Whole}
use Rattle.kt_prog.specs.Objects.{width_of}
use Rattle.kt_prog.specs.Operations.{trace, zeroing}
use Rattle.kt_prog.specs.Script.{Script, ◌>>=◌, ◌>>◌, give, perform}
use Rattle.kt_prog.specs.Zeroing.{zero_elements, zero_objects, zero_access, zero_all}
use Rattle.kt_prog.specs.declared.programs.Family.{Family}
use Rattle.kt_prog.specs.declared.programs.Program.{Program}
use Rattle.kt_prog.specs.declared.runs.Operation.{Operation}
use Rattle.kt_prog.specs.declared.runs.Operation.TheVariants as O
use Rattle.kt_body.specs.Endings.{Begins, ZeroesSo, answers_of}
use Rattle.kt_body.specs.Moves.{Can, Ran, gave, halted_in}
use Rattle.kt_body.proofs.Ends.{can_begin, came, stuck}
use Rattle.kt_body.specs.declared.ops.Early.TheVariants as early
use Rattle.kt_body.specs.declared.ops.Ended.TheVariants as E

module _ (object : ℕ) where
  pub elements_begin : (width n : ℕ) → width ≡ n → zero_elements object 0 n ≡ zero_elements object 0 (width - 0)
  elements_begin width n e = let same : width - 0 ≡ n = omega arith in rw same

  pub elements_more : (element width : ℕ) → element < width → zero_elements object element (width - element) ≡ (do
    perform object element (Store 0)
    zero_elements object (element + 1) (width - (element + 1)))
  elements_more element width h = let e : width - element ≡ suc (width - (element + 1)) = omega arith in rw (e, add-one)

  pub elements_none : (element width : ℕ) → width ≤ element → zero_elements object element (width - element) ≡ give tt
  elements_none element width h = let e : width - element ≡ 0 = omega arith in rw e

module _ (families : List Family) where
  pub objects_more : (object hi : ℕ) → object < hi → zero_objects (width_of families) object (hi - object) ≡ (do
    zero_elements object 0 (width_of families object)
    zero_objects (width_of families) (object + 1) (hi - (object + 1)))
  objects_more object hi h = let e : hi - object ≡ suc (hi - (object + 1)) = omega arith in rw (e, add-one)

  pub objects_none : (object hi : ℕ) → hi ≤ object → zero_objects (width_of families) object (hi - object) ≡ give tt
  objects_none object hi h = let e : hi - object ≡ 0 = omega arith in rw e

  not_zeroed : (a : Access) (mode : Mode) → (mode ≡ M.W → ⊥) → zero_access (width_of families) a mode ≡ give tt
  not_zeroed a M.R h = refl
  not_zeroed a M.W h = absurd (h refl)
  not_zeroed a M.X h = refl
  not_zeroed a (M.Cw op) h = refl
  not_zeroed a M.Rp h = refl
  not_zeroed a M.Wp h = refl
  not_zeroed a M.Xp h = refl
  not_zeroed a (M.Cwp op) h = refl

  pub access_none : (a : Access) → (a.mode ≡ M.W → ⊥) → zero_access (width_of families) a a.mode ≡ give tt
  access_none a h = not_zeroed a a.mode h

  all_next : (xs : List Access) (i : ℕ) (d : Access) → i < length xs → zero_all (width_of families) (drop i xs) ≡ (do
    zero_access (width_of families) (get_or xs i d) (get_or xs i d).mode
    zero_all (width_of families) (drop (suc i) xs))
  all_next [] i d h = absurd (omega arith)
  all_next (y ∷ xs) zero d h = refl
  all_next (y ∷ xs) (suc i) d h = all_next xs i d (omega arith)

  pub all_more : (xs : List Access) (i : ℕ) (d : Access) → i < length xs → zero_all (width_of families) (drop i xs) ≡ (do
    zero_access (width_of families) (get_or xs i d) (get_or xs i d).mode
    zero_all (width_of families) (drop (i + 1) xs))
  all_more xs i d h = rw add-one (all_next xs i d h)

  pub all_none : (xs : List Access) (i : ℕ) → length xs ≤ i → zero_all (width_of families) (drop i xs) ≡ give tt
  all_none xs i h = let e : drop i xs ≡ [] = grind (arith, common_steps) in rw e

  -- the zeroing asks for no answer
  elements_silent : (object from n : ℕ) (go : Unit {0} → Script) → ((found : List ℕ) → trace [] (go tt) found ≡ trace [] (go tt) [])
      → (found : List ℕ) → trace [] (zero_elements object from n go) found ≡ trace [] (zero_elements object from n go) []
  unfolding give perform ◌>>=◌
  elements_silent object from zero go h found = h found
  elements_silent object from (suc n) go h found =
      ap (λ (ops : List Operation). O.Store object from 0 ∷ ops) (elements_silent object (suc from) n go h found)

  objects_silent : (object n : ℕ) (go : Unit {0} → Script) → ((found : List ℕ) → trace [] (go tt) found ≡ trace [] (go tt) [])
      → (found : List ℕ) → trace [] (zero_objects (width_of families) object n go) found ≡ trace [] (zero_objects (width_of families) object n go) []
  unfolding give ◌>>=◌
  objects_silent object zero go h found = h found
  objects_silent object (suc n) go h found =
      elements_silent object 0 (width_of families object) (λ z. zero_objects (width_of families) (suc object) n go) (objects_silent (suc object) n go h) found

  access_silent : (a : Access) (mode : Mode) (go : Unit {0} → Script) → ((found : List ℕ) → trace [] (go tt) found ≡ trace [] (go tt) [])
      → (found : List ℕ) → trace [] (zero_access (width_of families) a mode go) found ≡ trace [] (zero_access (width_of families) a mode go) []
  unfolding give
  access_silent a M.R go h found = h found
  access_silent a M.W go h found = objects_silent a.lo (a.hi - a.lo) go h found
  access_silent a M.X go h found = h found
  access_silent a (M.Cw op) go h found = h found
  access_silent a M.Rp go h found = h found
  access_silent a M.Wp go h found = h found
  access_silent a M.Xp go h found = h found
  access_silent a (M.Cwp op) go h found = h found

  all_silent : (accesses : List Access) (go : Unit {0} → Script) → ((found : List ℕ) → trace [] (go tt) found ≡ trace [] (go tt) [])
      → (found : List ℕ) → trace [] (zero_all (width_of families) accesses go) found ≡ trace [] (zero_all (width_of families) accesses go) []
  unfolding give ◌>>=◌
  all_silent [] go h found = h found
  all_silent (a ∷ accesses) go h found =
      access_silent a a.mode (λ z. zero_all (width_of families) accesses go) (all_silent accesses go h) found

-- behind the zeroing
abbrev behind : Program → CallTree → Unit {0} → Script
behind p call z = call_body (λ w. w) p call call.task (λ z. Stop None)

zero_first : (p : Program) (call : CallTree) → script_of p (Whole call) ≡ zero_all (width_of p.families) call.accesses (behind p call)
unfolding script_with ◌>>=◌
zero_first p call = refl

silent : (p : Program) (call : CallTree) (found : List ℕ) → trace [] (zero_all (width_of p.families) call.accesses (λ z. Stop None)) found ≡ zeroing p call
silent p call found = all_silent p.families call.accesses (λ z. Stop None) (λ found. refl) found

module _ {S : Type 0} {at : S → Program → Job → List ℕ → ℕ → Type 0} {goes : S → Operation → S → Type 0} {halted : S → Type 0}
    (p : Program) (call : CallTree) (x y : S) (b : Begins at goes halted p (Whole call) x) where
  pub can_zero : Can at goes halted p x (zero_all (width_of p.families) call.accesses)
  can_zero = can_begin p (Whole call) x y (zero_all (width_of p.families) call.accesses) (behind p call) b (zero_first p call)

  pub zeroed : Ran at goes halted x (zero_all (width_of p.families) call.accesses) y (Ok tt) → ZeroesSo at goes halted p call x y E.Done
  zeroed (gave done f) =
      let is : zeroing p call ≡ done =
      sym (silent p call (answers_of done ++ [])) ∙ (f (λ z. Stop None)).traced [] [] ∙ append-nil done in
      rw is (came p (Whole call) x y (zero_all (width_of p.families) call.accesses) (behind p call) b (zero_first p call) _ done (f (behind p call)))

  pub zero_halted : Ran at goes halted x (zero_all (width_of p.families) call.accesses) y (Err early.Halted) → ZeroesSo at goes halted p call x y E.Halted
  zero_halted (halted_in done refused f) =
      let q = f (λ z. Stop None) in (
        done,
        q.rest [],
        refused,
        sym (silent p call _) ∙ q.traced [],
        stuck p (Whole call) x y (zero_all (width_of p.families) call.accesses) (behind p call) b (zero_first p call) done refused (f (behind p call)),
      )
