-- The operations of a loop's call are those of its zeroing, whatever its loads would find; so behind them none is next.
use Rattle.std.proofs.Common.{◌≡◌, ℕ, zero, suc, ◌-◌, Bool, true, List, [], ◌∷◌, ◌++◌, length, Some, None, refl, ap, subst, ◌∙◌, slice_get, if◌then◌else◌}
use Rattle.kt_law.specs.declared.accesses.Access.{Access}
use Rattle.kt_law.specs.declared.modes.Mode.{Mode}
use Rattle.kt_law.specs.declared.modes.Mode.TheVariants as M
use Rattle.kt_order.specs.Body.{Stop}
use Rattle.kt_prog.specs.Calls.{CallTree, Whole}
use Rattle.kt_prog.specs.Script.{Script, Step, ◌>>=◌, give, fork, perform}
use Rattle.kt_prog.specs.Objects.{width_of}
use Rattle.kt_prog.specs.Zeroing.{zero_elements, zero_objects, zero_access, zero_all}
use Rattle.kt_prog.specs.Bodies.{script_with, script_of, indexes, call_body}
use Rattle.kt_prog.specs.Operations.{trace, heard, is_loop_at, operations, IsNext}
use Rattle.kt_prog.specs.declared.programs.Program.{Program}
use Rattle.kt_prog.specs.declared.runs.Operation.{Operation}
use Rattle.kt_prog.specs.declared.runs.Operation.TheVariants as O
use Rattle.kt_runs.proofs.Indexes.{loop_does}

-- two bodies that do the same do the same behind a zeroing
abbrev Alike : (Unit {0} → Script) → (Unit {0} → Script) → Type 0
Alike go on = (found heard : List ℕ) → trace [] (go tt) found ≡ trace [] (on tt) heard

module _ (widths : ℕ → ℕ) where
  elements_alike : (object from n : ℕ) (go on : Unit {0} → Script) → Alike go on → (found heard : List ℕ)
      → trace [] (zero_elements object from n go) found ≡ trace [] (zero_elements object from n on) heard
  unfolding give ◌>>=◌ perform
  elements_alike object from zero go on h found heard = h found heard
  elements_alike object from (suc n) go on h found heard = ap (λ (ops : List Operation). O.Store object from 0 ∷ ops) (elements_alike object (suc from) n go on h found heard)

  objects_alike : (object n : ℕ) (go on : Unit {0} → Script) → Alike go on → (found heard : List ℕ)
      → trace [] (zero_objects widths object n go) found ≡ trace [] (zero_objects widths object n on) heard
  unfolding give ◌>>=◌
  objects_alike object zero go on h found heard = h found heard
  objects_alike object (suc n) go on h found heard =
      elements_alike object 0 (widths object) (λ z. zero_objects widths (suc object) n go) (λ z. zero_objects widths (suc object) n on) (objects_alike (suc object) n go on h) found heard

  access_alike : (a : Access) (mode : Mode) (go on : Unit {0} → Script) → Alike go on → (found heard : List ℕ)
      → trace [] (zero_access widths a mode go) found ≡ trace [] (zero_access widths a mode on) heard
  unfolding give
  access_alike a M.W go on h found heard = objects_alike a.lo (a.hi - a.lo) go on h found heard
  access_alike a M.R go on h found heard = h found heard
  access_alike a M.X go on h found heard = h found heard
  access_alike a (M.Cw op) go on h found heard = h found heard
  access_alike a M.Rp go on h found heard = h found heard
  access_alike a M.Wp go on h found heard = h found heard
  access_alike a M.Xp go on h found heard = h found heard
  access_alike a (M.Cwp op) go on h found heard = h found heard

  all_alike : (accesses : List Access) (go on : Unit {0} → Script) → Alike go on → (found heard : List ℕ)
      → trace [] (zero_all widths accesses go) found ≡ trace [] (zero_all widths accesses on) heard
  unfolding give ◌>>=◌
  all_alike [] go on h found heard = h found heard
  all_alike (a ∷ accesses) go on h found heard = access_alike a a.mode (λ z. zero_all widths accesses go) (λ z. zero_all widths accesses on) (all_alike accesses go on h) found heard

indexes_none : (c : CallTree) (i n : ℕ) (found : List ℕ) → trace [] (indexes c i n (λ _. Stop None)) found ≡ []
unfolding ◌>>=◌ fork give
indexes_none c i zero found = refl
indexes_none c i (suc n) found = refl

module _ (p : Program) where
  -- as kt_body defines the zeroing of a call
  abbrev pub zeroing : CallTree → List Operation
  zeroing call = trace [] (zero_all (width_of p.families) call.accesses (λ _. Stop None)) []

  first : (call : CallTree) → script_of p (Whole call) ≡ zero_all (width_of p.families) call.accesses (λ z. call_body (λ w. w) p call call.task (λ z. Stop None))
  unfolding script_with ◌>>=◌
  first call = refl

  pub loop_operations : (call : CallTree) → is_loop_at p call.task ≡ true → (found : List ℕ) → operations p (Whole call) found ≡ zeroing call
  loop_operations call loop found =
      ap (λ (b : Bool). trace (if b then [] else O.End ∷ []) (script_of p (Whole call)) found) loop
      ∙ (ap (λ (w : Script). trace [] w found) (first call)
      ∙ all_alike (width_of p.families) call.accesses (λ z. call_body (λ w. w) p call call.task (λ z. Stop None)) (λ z. Stop None)
      (λ a b. ap (λ (s : Step (Unit {0})). trace [] (s (λ z. Stop None)) a) (loop_does p call call.task loop) ∙ indexes_none call 0 call.length a) found [])

  -- so a loop whose zeroing is done has no next operation
  pub nothing_next : (call : CallTree) → is_loop_at p call.task ≡ true → (answers : List ℕ) (op : Operation) → IsNext p (Whole call) answers (length (zeroing call)) op → ⊥
  nothing_next call loop answers op next = beyond (zeroing call) op (subst (λ (ops : List Operation). slice_get ops (length (zeroing call)) ≡ Some op) (loop_operations call loop (answers ++ heard op)) next)
    where
      beyond : (ops : List Operation) (op : Operation) → slice_get ops (length ops) ≡ Some op → ⊥
      beyond [] op e = cc
      beyond (x ∷ ops) op e = beyond ops op e
