-- What a call does begins with its zeroing, and a loop's call does no more.
use Rattle.std.proofs.Common.{◌≡◌, ℕ, zero, suc, ◌-◌, Bool, true, false, List, [], ◌∷◌, ◌++◌, Option, Some, None, refl, sym, ap, ◌∙◌, append-nil, append_assoc, is_some, if◌then◌else◌}
use Rattle.kt_law.specs.declared.modes.Mode.{Mode}
use Rattle.kt_law.specs.declared.modes.Mode.TheVariants as M
use Rattle.kt_law.specs.declared.accesses.Access.{Access}
use Rattle.kt_order.specs.Body.{Stop}
use Rattle.kt_prog.specs.Bodies.{call_body, index_in, indexes, script_of, script_with, task_at, task_or_loop}
use Rattle.kt_prog.specs.Calls.{CallTree, Whole}
use Rattle.kt_prog.specs.Operations.{end_of, is_loop_at, trace, zeroing}
use Rattle.kt_prog.specs.Script.{Script, Step, ◌>>=◌, fork, give, perform}
use Rattle.kt_prog.specs.Objects.{width_of}
use Rattle.kt_prog.specs.Zeroing.{zero_elements, zero_objects, zero_access, zero_all}
use Rattle.kt_prog.specs.declared.programs.Index as I
use Rattle.kt_prog.specs.declared.programs.Program.{Program}
use Rattle.kt_prog.specs.declared.programs.Task.{Task}
use Rattle.kt_prog.specs.declared.runs.Operation.{Operation}
use Rattle.kt_prog.specs.declared.runs.Operation.TheVariants as O
use Rattle.kt_prog.specs.Zeroes.{LoopIsZeroing, ZeroingIsFirst}

-- what the steps do alone
abbrev of : Step (Unit {0}) → List Operation
of s = trace [] (s (λ _. Stop None)) []

-- what the steps do comes first, whatever follows
abbrev Fronts : Step (Unit {0}) → Type 0
Fronts s = (last : List Operation) (go : Unit {0} → Script) (answers : List ℕ) → trace last (s go) answers ≡ of s ++ trace last (go tt) answers

fronts_give : Fronts (give tt)
unfolding give
fronts_give last go answers = refl

fronts_then : (s t : Step (Unit {0})) → Fronts s → Fronts t → Fronts (s >>= (λ _. t))
unfolding ◌>>=◌
fronts_then s t f g last go answers =
    f last (λ _. t go) answers
    ∙ ap (λ l. of s ++ l) (g last go answers)
    ∙ sym (append_assoc (of s) (of t) (trace last (go tt) answers))
    ∙ ap (λ l. l ++ trace last (go tt) answers) (sym (f [] (λ _. t (λ _. Stop None)) []))

fronts_elements : (object from n : ℕ) → Fronts (zero_elements object from n)
unfolding ◌>>=◌ perform give
fronts_elements object from zero last go answers = refl
fronts_elements object from (suc n) last go answers =
    ap (λ l. O.Store object from 0 ∷ l) (fronts_elements object (suc from) n last go answers)

module _ (widths : ℕ → ℕ) where
  fronts_objects : (object n : ℕ) → Fronts (zero_objects widths object n)
  fronts_objects object zero = fronts_give
  fronts_objects object (suc n) =
      fronts_then (zero_elements object 0 (widths object)) (zero_objects widths (suc object) n)
      (fronts_elements object 0 (widths object)) (fronts_objects (suc object) n)

  fronts_access : (a : Access) (mode : Mode) → Fronts (zero_access widths a mode)
  fronts_access a M.W = fronts_objects a.lo (a.hi - a.lo)
  fronts_access a M.R = fronts_give
  fronts_access a M.X = fronts_give
  fronts_access a M.Rp = fronts_give
  fronts_access a M.Wp = fronts_give
  fronts_access a M.Xp = fronts_give
  fronts_access a (M.Cw op) = fronts_give
  fronts_access a (M.Cwp op) = fronts_give

  fronts_all : (accesses : List Access) → Fronts (zero_all widths accesses)
  fronts_all [] = fronts_give
  fronts_all (a ∷ accesses) =
      fronts_then (zero_access widths a a.mode) (zero_all widths accesses) (fronts_access a a.mode) (fronts_all accesses)

behind : (p : Program) (call : CallTree) (last : List Operation) (answers : List ℕ)
    → trace last (script_of p (Whole call)) answers
    ≡ zeroing p call ++ trace last (call_body (λ w. w) p call call.task (λ _. Stop None)) answers
unfolding script_with ◌>>=◌
behind p call last answers = fronts_all (width_of p.families) call.accesses last (λ _. call_body (λ w. w) p call call.task (λ _. Stop None)) answers

pub zeroing_is_first : ZeroingIsFirst
zeroing_is_first p call answers =
    (trace (end_of p (Whole call)) (call_body (λ w. w) p call call.task (λ _. Stop None)) answers, behind p call (end_of p (Whole call)) answers)

-- the indexes have bodies of their own
indexes_silent : (call : CallTree) (i n : ℕ) (answers : List ℕ) → trace [] (indexes call i n (λ _. Stop None)) answers ≡ []
unfolding ◌>>=◌ fork give
indexes_silent call i zero answers = refl
indexes_silent call i (suc n) answers = refl

either_silent : (p : Program) (call : CallTree) (b : Bool) (index : Option I.Index) (t : Option Task) (other : Step (Unit {0}))
    → (if b then is_some index else false) ≡ true → (answers : List ℕ)
    → trace [] ((if b then task_or_loop (λ w. w) p call t index else other) (λ _. Stop None)) answers ≡ []
either_silent p call true (Some index) t other h answers = indexes_silent call 0 call.length answers
either_silent p call true None t other h answers = cc
either_silent p call false index t other h answers = cc

body_silent : (p : Program) (call : CallTree) (task : ℕ) → is_loop_at p task ≡ true → (answers : List ℕ)
    → trace [] (call_body (λ w. w) p call task (λ _. Stop None)) answers ≡ []
body_silent p call zero h answers = cc
body_silent p call (suc k) h answers =
    either_silent p call _ (index_in (task_at p.tasks k)) (task_at p.tasks k) _ h answers

pub loop_is_zeroing : LoopIsZeroing
loop_is_zeroing p call h answers =
    ap (λ b. trace (if b then [] else O.End ∷ []) (script_of p (Whole call)) answers) h
    ∙ behind p call [] answers
    ∙ ap (λ l. zeroing p call ++ l) (body_silent p call call.task h answers)
    ∙ append-nil (zeroing p call)
