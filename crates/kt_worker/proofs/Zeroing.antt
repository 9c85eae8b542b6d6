-- Where the body of a loop stands behind its zeroing, and once its indexes have begun.
use Rattle.std.proofs.Common.{◌≡◌, ℕ, zero, suc, ◌+◌, ◌-◌, true, false, List, [], ◌∷◌, ◌++◌, length, flat_map, Some, None, refl, sym, ap, ◌∙◌, arith, append-nil, append_assoc}
use Rattle.kt_law.specs.Acts.{Store}
use Rattle.kt_law.specs.declared.accesses.Access.{Access}
use Rattle.kt_law.specs.declared.modes.Mode.{Mode}
use Rattle.kt_law.specs.declared.modes.Mode.TheVariants as M
use Rattle.kt_order.specs.Body.{Stop}
use Rattle.kt_order.specs.Forest.{Task}
use Rattle.kt_order.specs.Loops.{forks_then}
use Rattle.kt_order.specs.Machine.{Machine, Code}
use Rattle.kt_order.specs.Rest.{left, left_of, standing}
use Rattle.kt_order.specs.Stand.{Standing, stand}
use Rattle.kt_order.proofs.Stands.{stand_ended, stand_forked}
use Rattle.kt_prog.specs.Bodies.{call_body, script_of, script_with}
use Rattle.kt_prog.specs.Calls.{CallTree, Whole}
use Rattle.kt_prog.specs.Objects.{width_of}
use Rattle.kt_prog.specs.Operations.{heard, is_loop_at, trace, zeroing}
use Rattle.kt_prog.specs.Reference.{Placed, placed, machine_of}
use Rattle.kt_prog.specs.Script.{Script, Step, ◌>>=◌, give, perform}
use Rattle.kt_prog.specs.Zeroing.{zero_access, zero_all, zero_elements, zero_objects}
use Rattle.kt_prog.specs.declared.programs.Program.{Program}
use Rattle.kt_prog.specs.declared.runs.Operation.{Operation}
use Rattle.kt_prog.specs.declared.runs.Operation.TheVariants as O
use Rattle.kt_runs.specs.Loops.{index_calls}
use Rattle.kt_runs.proofs.Going.{indexes_are}
use Rattle.kt_runs.proofs.Indexes.{calls_length, loop_does}

-- what the loads among some operations found
abbrev answers_in : List Operation → List ℕ
answers_in ops = flat_map heard ops

-- n, and one for each operation
abbrev behind : List Operation → ℕ → ℕ
behind [] n = n
behind (op ∷ ops) n = suc (behind ops n)

behind_both : (xs ys : List Operation) (n : ℕ) → behind (xs ++ ys) n ≡ behind xs (behind ys n)
behind_both [] ys n = refl
behind_both (op ∷ xs) ys n = ap suc (behind_both xs ys n)

behind_all : (ops : List Operation) → length ops ≡ behind ops 0
behind_all [] = refl
behind_all (op ∷ ops) = ap suc (behind_all ops)

answers_both : (xs ys : List Operation) → answers_in xs ≡ [] → answers_in ys ≡ [] → answers_in (xs ++ ys) ≡ []
answers_both [] ys e f = f
answers_both (O.Load object element a ∷ xs) ys e f = cc
answers_both (O.Store object element v ∷ xs) ys e f = answers_both xs ys e f
answers_both (O.Fold object element op v ∷ xs) ys e f = answers_both xs ys e f
answers_both (O.Fork call ∷ xs) ys e f = answers_both xs ys e f
answers_both (O.End ∷ xs) ys e f = answers_both xs ys e f
answers_both (O.Fault law line ∷ xs) ys e f = answers_both xs ys e f

module _ (p : Program) where
  abbrev m : Machine
  m = machine_of p

  -- the steps do these operations, which hear nothing, and then whatever follows goes on
  record Zeroes (s : Step (Unit {0})) (ops : List Operation) : Type 0 where
    traced : (go : Unit {0} → Script) (answers : List ℕ) → trace [] (s go) answers ≡ ops ++ trace [] (go tt) answers
    silent : answers_in ops ≡ []
    stands : (path : List ℕ) (k : ℕ) (go : Unit {0} → Script) (n : ℕ) → stand m (placed path k (s go)) [] (behind ops n) ≡ stand m (placed path k (go tt)) [] n

  zeroes_give : Zeroes (give tt) []
  unfolding give
  zeroes_give = record { traced = λ go answers. refl; silent = refl; stands = λ path k go n. refl }

  zeroes_one : (object element : ℕ) → Zeroes (perform object element (Store 0)) (O.Store object element 0 ∷ [])
  unfolding perform
  zeroes_one object element = record { traced = λ go answers. refl; silent = refl; stands = λ path k go n. refl }

  zeroes_then : (s t : Step (Unit {0})) (xs ys : List Operation) → Zeroes s xs → Zeroes t ys → Zeroes (s >>= (λ u. t)) (xs ++ ys)
  unfolding ◌>>=◌
  zeroes_then s t xs ys f g = record {
    traced = λ go answers.
        f.traced (λ u. t go) answers ∙ ap (λ (l : List Operation). xs ++ l) (g.traced go answers) ∙ sym (append_assoc xs ys (trace [] (go tt) answers));
    silent = answers_both xs ys f.silent g.silent;
    stands = λ path k go n.
        ap (λ (i : ℕ). stand m (placed path k (s (λ u. t go))) [] i) (behind_both xs ys n) ∙ f.stands path k (λ u. t go) (behind ys n) ∙ g.stands path k go n;
  }

  abbrev Some_zeroes : Step (Unit {0}) → Type 0
  Some_zeroes s = (ops : List Operation) × Zeroes s ops

  nothing : Some_zeroes (give tt)
  nothing = ([], zeroes_give)

  elements : (object from n : ℕ) → Some_zeroes (zero_elements object from n)
  elements object from zero = nothing
  elements object from (suc n) =
      let more = elements object (suc from) n in
      let one = O.Store object from 0 ∷ [] in
      (one ++ more.0, zeroes_then (perform object from (Store 0)) (zero_elements object (suc from) n) one more.0 (zeroes_one object from) more.1)

  module _ (widths : ℕ → ℕ) where
    objects : (object n : ℕ) → Some_zeroes (zero_objects widths object n)
    objects object zero = nothing
    objects object (suc n) =
        let first = elements object 0 (widths object) in
        let more = objects (suc object) n in
        (first.0 ++ more.0, zeroes_then (zero_elements object 0 (widths object)) (zero_objects widths (suc object) n) first.0 more.0 first.1 more.1)

    access : (a : Access) (mode : Mode) → Some_zeroes (zero_access widths a mode)
    access a M.W = objects a.lo (a.hi - a.lo)
    access a M.R = nothing
    access a M.X = nothing
    access a M.Rp = nothing
    access a M.Wp = nothing
    access a M.Xp = nothing
    access a (M.Cw op) = nothing
    access a (M.Cwp op) = nothing

    all_zeroes : (accesses : List Access) → Some_zeroes (zero_all widths accesses)
    all_zeroes [] = nothing
    all_zeroes (a ∷ accesses) =
        let first = access a a.mode in
        let more = all_zeroes accesses in
        (first.0 ++ more.0, zeroes_then (zero_access widths a a.mode) (zero_all widths accesses) first.0 more.0 first.1 more.1)

  zeroing_is : (call : CallTree) → zeroing p call ≡ (all_zeroes (width_of p.families) call.accesses).0
  zeroing_is call = let z = all_zeroes (width_of p.families) call.accesses in z.1.traced (λ u. Stop None) [] ∙ append-nil z.0

  -- the zeroing hears nothing
  pub zeroing_silent : (call : CallTree) → answers_in (zeroing p call) ≡ []
  zeroing_silent call = ap answers_in (zeroing_is call) ∙ (all_zeroes (width_of p.families) call.accesses).1.silent

  -- behind it only the indexes are left to fork
  stand_behind : (call : CallTree) (path : List ℕ) → is_loop_at p call.task ≡ true
      → stand m (placed path 1 (script_of p (Whole call))) [] (length (zeroing p call))
      ≡ Some (record { left = forks_then m (index_calls path call 0 call.length) None; forks = []; over = false })
  unfolding script_with ◌>>=◌
  stand_behind call path loop =
      let z = all_zeroes (width_of p.families) call.accesses in
      let go : Unit {0} → Script = λ u. call_body (λ w. w) p call call.task (λ u. Stop None) in
      ap (λ (n : ℕ). stand m (placed path 1 (script_of p (Whole call))) [] n) (ap (λ (ops : List Operation). length ops) (zeroing_is call) ∙ behind_all z.0)
      ∙ z.1.stands path 1 go 0
      ∙ ap (λ (s : Step (Unit {0})). stand m (placed path 1 (s (λ u. Stop None))) [] 0) (loop_does p call call.task loop)
      ∙ ap (λ (w : Code m). Some (record { left = w; forks = []; over = false })) (indexes_are p call path 1 0 call.length)

  pub zeroed_left : (u : Task m) (call : CallTree) (path : List ℕ) → is_loop_at p call.task ≡ true → u.call ≡ record { path = path; job = Whole call }
      → u.answers ≡ answers_in (zeroing p call) → u.done ≡ length (zeroing p call)
      → left m u ≡ forks_then m (index_calls path call 0 call.length) None
  zeroed_left u call path loop is heard done =
      ap (left_of m)
      (ap (λ (c : Placed). stand m (m.tree c) u.answers u.done) is
      ∙ ap (λ (xs : List ℕ). stand m (placed path 1 (script_of p (Whole call))) xs u.done) (heard ∙ zeroing_silent call)
      ∙ ap (λ (n : ℕ). stand m (placed path 1 (script_of p (Whole call))) [] n) done
      ∙ stand_behind call path loop)

  -- all of them are forked
  stand_all : (w : Code m) (answers : List ℕ) (cs : List Placed) (n : ℕ) (st : Standing m) → stand m w answers n ≡ Some st
      → st.left ≡ forks_then m cs None → st.over ≡ false
      → (fs : List Placed) × (stand m w answers (n + suc (length cs)) ≡ Some (record { left = Stop None; forks = fs; over = true }))
  stand_all w answers [] n st is stops still =
      (st.forks, ap (λ (k : ℕ). stand m w answers k) (one_more n) ∙ stand_ended m w answers n st None is stops still)
    where
      one_more : (n : ℕ) → n + 1 ≡ suc n
      one_more n = omega arith
  stand_all w answers (c ∷ cs) n st is stops still =
      let next = stand_forked m w answers n st c (forks_then m cs None) is stops in
      let more = stand_all w answers cs (suc n) (record { left = forks_then m cs None; forks = st.forks ++ c ∷ []; over = false }) next refl refl in
      (more.0, ap (λ (k : ℕ). stand m w answers k) (moved n (length cs)) ∙ more.1)
    where
      moved : (n k : ℕ) → n + suc (suc k) ≡ suc n + suc k
      moved n k = omega arith

  -- a body that has begun its indexes has met no fault
  pub begun_left : (u v : Task m) (st : Standing m) (path : List ℕ) (call : CallTree) → standing m u ≡ Some st → st.over ≡ false
      → left m u ≡ forks_then m (index_calls path call 0 call.length) None
      → v.call ≡ u.call → v.answers ≡ u.answers → v.done ≡ u.done + suc call.length → left m v ≡ Stop None
  begun_left u v st path call is still zeroed calls answers done =
      let cs = index_calls path call 0 call.length in
      let stops : st.left ≡ forks_then m cs None = sym (ap (left_of m) is) ∙ zeroed in
      let end = stand_all (m.tree u.call) u.answers cs u.done st is stops still in
      ap (left_of m)
      (ap (λ (c : Placed). stand m (m.tree c) v.answers v.done) calls
      ∙ ap (λ (xs : List ℕ). stand m (m.tree u.call) xs v.done) answers
      ∙ ap (λ (n : ℕ). stand m (m.tree u.call) u.answers n) (done ∙ ap (λ (n : ℕ). u.done + suc n) (sym (calls_length path call 0 call.length)))
      ∙ end.1)
