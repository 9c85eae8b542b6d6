-- Where the body of a loop stands behind its zeroing, and nowhere else.
use Rattle.std.proofs.Common.{◌≡◌, ◌<◌, ℕ, zero, suc, ◌+◌, ◌-◌, true, false, List, [], ◌∷◌, ◌++◌, length, Some, None, ◌⊎◌, inl, inr, refl, sym, ap, ◌∙◌, subst, arith, append-nil, append_assoc, length-append}
use Rattle.kt_law.specs.Acts.{Store}
use Rattle.kt_law.specs.declared.accesses.Access.{Access}
use Rattle.kt_law.specs.declared.modes.Mode.{Mode}
use Rattle.kt_law.specs.declared.modes.Mode.TheVariants as M
use Rattle.kt_order.specs.Body.{Stop, Do, Fork}
use Rattle.kt_order.specs.Forest.{Task}
use Rattle.kt_order.specs.Loops.{forks_then}
use Rattle.kt_order.specs.Machine.{Machine, Code}
use Rattle.kt_order.specs.Rest.{standing}
use Rattle.kt_order.specs.Stand.{Standing, stand}
use Rattle.kt_order.proofs.Stands.{fork_some, some_is, stand_none}
use Rattle.kt_prog.specs.Bodies.{call_body, script_of, script_with}
use Rattle.kt_prog.specs.Calls.{CallTree, Whole}
use Rattle.kt_prog.specs.Objects.{width_of}
use Rattle.kt_prog.specs.Operations.{is_loop_at, trace, zeroing}
use Rattle.kt_prog.specs.Reference.{Placed, placed, machine_of}
use Rattle.kt_prog.specs.Script.{Script, Step, ◌>>=◌, give, perform}
use Rattle.kt_prog.specs.Zeroes.{LoopIsZeroing}
use Rattle.kt_prog.specs.Zeroing.{zero_access, zero_all, zero_elements, zero_objects}
use Rattle.kt_prog.specs.declared.programs.Program.{Program}
use Rattle.kt_prog.specs.declared.runs.Operation.{Operation}
use Rattle.kt_prog.specs.declared.runs.Operation.TheVariants as O
use Rattle.kt_runs.specs.CoreEvents.{IsAct}
use Rattle.kt_runs.specs.Loops.{index_calls}
use Rattle.kt_runs.proofs.Going.{indexes_are}
use Rattle.kt_runs.proofs.Indexes.{Forking, calls_length, forks_forking, loop_does, loop_forking, stand_forking}
use Rattle.kt_entries.specs.Loops.{HasDoneZeroing, IsOfCall, LoopsZeroAndFork, indexes_alone}

-- n, and one for each operation
abbrev past : List Operation → ℕ → ℕ
past [] n = n
past (op ∷ ops) n = suc (past ops n)

past_both : (xs ys : List Operation) (n : ℕ) → past (xs ++ ys) n ≡ past xs (past ys n)
past_both [] ys n = refl
past_both (op ∷ xs) ys n = ap suc (past_both xs ys n)

past_is : (ops : List Operation) (n : ℕ) → length ops + n ≡ past ops n
past_is [] n = omega arith
past_is (op ∷ ops) n = let more = past_is ops n in omega (arith, more)

-- a place is among so many operations, or so far behind them
side : (ops : List Operation) (n : ℕ) → (n < length ops) ⊎ ((d : ℕ) × (n ≡ past ops d))
side [] n = inr (n, refl)
side (op ∷ ops) zero = inl (omega arith)
side (op ∷ ops) (suc n) = elim (side ops n) [
  | inl less ↦ inl (omega (arith, less))
  | inr more ↦ inr (more.0, ap suc more.1)
]

module _ (p : Program) where
  abbrev m : Machine
  m = machine_of p

  -- The steps do so many operations, which hear nothing, and then whatever follows goes on; before that an act is left.
  record Zeroes (s : Step (Unit {0})) (ops : List Operation) : Type 0 where
    traced : (go : Unit {0} → Script) (answers : List ℕ) → trace [] (s go) answers ≡ ops ++ trace [] (go tt) answers
    stands : (path : List ℕ) (k : ℕ) (go : Unit {0} → Script) (answers : List ℕ) (n : ℕ)
        → stand m (placed path k (s go)) answers (past ops n) ≡ stand m (placed path k (go tt)) answers n
    before : (path : List ℕ) (k : ℕ) (go : Unit {0} → Script) (answers : List ℕ) (n : ℕ) (st : Standing m) → n < length ops
        → stand m (placed path k (s go)) answers n ≡ Some st → IsAct p st.left

  zeroes_give : Zeroes (give tt) []
  unfolding give
  zeroes_give = record {
    traced = λ go answers. refl;
    stands = λ path k go answers n. refl;
    before = λ path k go answers n st lt e. absurd (omega (arith, lt));
  }

  zeroes_one : (object element : ℕ) → Zeroes (perform object element (Store 0)) (O.Store object element 0 ∷ [])
  unfolding perform
  zeroes_one object element = record {
    traced = λ go answers. refl;
    stands = λ path k go answers n. refl;
    before = λ path k go answers n st lt e. first path k go answers n st lt e;
  }
    where
      first : (path : List ℕ) (k : ℕ) (go : Unit {0} → Script) (answers : List ℕ) (n : ℕ) (st : Standing m) → n < 1
          → stand m (placed path k (perform object element (Store 0) go)) answers n ≡ Some st → IsAct p st.left
      first path k go answers zero st lt e =
          subst (λ (s : Standing m). IsAct p s.left) (sym (stand_none m (placed path k (perform object element (Store 0) go)) answers st e).1) tt
      first path k go answers (suc n) st lt e = absurd (omega (arith, lt))

  zeroes_then : (s t : Step (Unit {0})) (xs ys : List Operation) → Zeroes s xs → Zeroes t ys → Zeroes (s >>= (λ u. t)) (xs ++ ys)
  unfolding ◌>>=◌
  zeroes_then s t xs ys f g = record {
    traced = λ go answers.
        f.traced (λ u. t go) answers ∙ ap (λ (l : List Operation). xs ++ l) (g.traced go answers) ∙ sym (append_assoc xs ys (trace [] (go tt) answers));
    stands = λ path k go answers n.
        ap (λ (i : ℕ). stand m (placed path k (s (λ u. t go))) answers i) (past_both xs ys n)
        ∙ f.stands path k (λ u. t go) answers (past ys n)
        ∙ g.stands path k go answers n;
    before = λ path k go answers n st lt e. elim (side xs n) [
      | inl less ↦ f.before path k (λ u. t go) answers n st less e
      | inr more ↦
          let long = length-append xs ys in
          let is : n ≡ past xs more.0 = more.1 in
          let sum = past_is xs more.0 in
          let less : more.0 < length ys = omega (arith, long, lt, is, sum) in
          g.before path k go answers more.0 st less
          (sym (f.stands path k (λ u. t go) answers more.0)
          ∙ ap (λ (i : ℕ). stand m (placed path k (s (λ u. t go))) answers i) (sym is)
          ∙ e)
    ];
  }

  abbrev Some_zeroes : Step (Unit {0}) → Type 0
  Some_zeroes s = (ops : List Operation) × Zeroes s ops

  nothing : Some_zeroes (give tt)
  nothing = ([], zeroes_give)

  elements : (object from n : ℕ) → Some_zeroes (zero_elements object from n)
  elements object from zero = nothing
  elements object from (suc n) =
      let more = elements object (suc from) n in
      let one = O.Store object from 0 ∷ [] in
      (one ++ more.0, zeroes_then (perform object from (Store 0)) (zero_elements object (suc from) n) one more.0 (zeroes_one object from) more.1)

  module _ (widths : ℕ → ℕ) where
    objects : (object n : ℕ) → Some_zeroes (zero_objects widths object n)
    objects object zero = nothing
    objects object (suc n) =
        let first = elements object 0 (widths object) in
        let more = objects (suc object) n in
        (first.0 ++ more.0, zeroes_then (zero_elements object 0 (widths object)) (zero_objects widths (suc object) n) first.0 more.0 first.1 more.1)

    access : (a : Access) (mode : Mode) → Some_zeroes (zero_access widths a mode)
    access a M.W = objects a.lo (a.hi - a.lo)
    access a M.R = nothing
    access a M.X = nothing
    access a M.Rp = nothing
    access a M.Wp = nothing
    access a M.Xp = nothing
    access a (M.Cw op) = nothing
    access a (M.Cwp op) = nothing

    all_zeroes : (accesses : List Access) → Some_zeroes (zero_all widths accesses)
    all_zeroes [] = nothing
    all_zeroes (a ∷ accesses) =
        let first = access a a.mode in
        let more = all_zeroes accesses in
        (first.0 ++ more.0, zeroes_then (zero_access widths a a.mode) (zero_all widths accesses) first.0 more.0 first.1 more.1)

  module _ (path : List ℕ) (call : CallTree) (loop : is_loop_at p call.task ≡ true) where
    abbrev tree : Code m
    tree = placed path 1 (script_of p (Whole call))

    abbrev last : Code m
    last = indexes_alone p path call

    abbrev go : Unit {0} → Script
    go u = call_body (λ w. w) p call call.task (λ u. Stop None)

    abbrev many : ℕ
    many = length (zeroing p call)

    many_is : many ≡ length (all_zeroes (width_of p.families) call.accesses).0
    many_is =
        let z = all_zeroes (width_of p.families) call.accesses in
        ap (λ (ops : List Operation). length ops) (z.1.traced (λ u. Stop None) [] ∙ append-nil z.0)

    last_is : placed path 1 (go tt) ≡ last
    last_is = ap (λ (s : Step (Unit {0})). placed path 1 (s (λ u. Stop None))) (loop_does p call call.task loop) ∙ indexes_are p call path 1 0 call.length

    stand_behind : (answers : List ℕ) (n : ℕ) → stand m tree answers (many + n) ≡ stand m last answers n
    unfolding script_with ◌>>=◌
    stand_behind answers n =
        ap (λ (i : ℕ). stand m tree answers (i + n)) many_is
        ∙ ap (λ (i : ℕ). stand m tree answers i) (past_is (all_zeroes (width_of p.families) call.accesses).0 n)
        ∙ (all_zeroes (width_of p.families) call.accesses).1.stands path 1 go answers n
        ∙ ap (λ (w : Code m). stand m w answers n) last_is

    act_before : (answers : List ℕ) (n : ℕ) (st : Standing m) → n < many → stand m tree answers n ≡ Some st → IsAct p st.left
    unfolding script_with ◌>>=◌
    act_before answers n st lt e =
        (all_zeroes (width_of p.families) call.accesses).1.before path 1 go answers n st (subst (λ (k : ℕ). n < k) many_is lt) e

    no_act : (cs : List Placed) (w : Code m) → w ≡ forks_then m cs None → IsAct p w → ⊥
    no_act [] (Stop f) e act = act
    no_act (c ∷ cs) (Stop f) e act = act
    no_act [] (Fork d w) e act = act
    no_act (c ∷ cs) (Fork d w) e act = act
    no_act [] (Do q next) e act = cc
    no_act (c ∷ cs) (Do q next) e act = cc

    -- behind the first fork something is forked, and behind the end it is over
    only_first : (cs : List Placed) (answers : List ℕ) (n : ℕ) (st : Standing m) → stand m (forks_then m cs None) answers n ≡ Some st
        → st.over ≡ false → length st.forks ≡ 0 → (n ≡ 0) × (answers ≡ [])
    only_first cs answers zero st e goes none = (refl, (stand_none m (forks_then m cs None) answers st e).0)
    only_first [] [] (suc zero) st e goes none =
        absurd (cc (ap (λ (s : Standing m). s.over) (some_is m (record { left = Stop None; forks = []; over = true }) st e), goes))
    only_first [] [] (suc (suc n)) st e goes none = absurd (cc e)
    only_first [] (a ∷ more) (suc n) st e goes none = absurd (cc e)
    only_first (c ∷ cs) answers (suc n) st e goes none =
        let s = fork_some m c (stand m (forks_then m cs None) answers n) st e in
        let many : length st.forks ≡ suc (length s.0.forks) = ap (λ (x : Standing m). length x.forks) s.2 in
        absurd (omega (arith, many, none))

    none_forked : (answers : List ℕ) (n : ℕ) (st : Standing m) → stand m tree answers n ≡ Some st → st.left ≡ last → length st.forks ≡ 0
    none_forked answers n st e is =
        let f = stand_forking p tree answers n st call.length e (loop_forking p call path loop) in
        let left : f.0 ≡ length (index_calls path call 0 call.length) =
        forks_forking p (index_calls path call 0 call.length) f.0 (subst (λ (w : Code m). Forking p f.0 w) is f.2) in
        let all = calls_length path call 0 call.length in
        let sum : length st.forks + f.0 ≡ call.length = f.1 in
        omega (arith, left, all, sum)

    only_behind : (answers : List ℕ) (n : ℕ) (st : Standing m) → stand m tree answers n ≡ Some st → st.over ≡ false → st.left ≡ last
        → (n ≡ many) × (answers ≡ [])
    only_behind answers n st e goes is = elim (side (zeroing p call) n) [
      | inl less ↦ absurd (no_act (index_calls path call 0 call.length) st.left is (act_before answers n st less e))
      | inr more ↦
          let sum = past_is (zeroing p call) more.0 in
          let far : n ≡ past (zeroing p call) more.0 = more.1 in
          let there : n ≡ many + more.0 = omega (arith, sum, far) in
          let at = sym (stand_behind answers more.0) ∙ ap (λ (i : ℕ). stand m tree answers i) (sym there) ∙ e in
          let o = only_first (index_calls path call 0 call.length) answers more.0 st at goes (none_forked answers n st e is) in
          let none : more.0 ≡ 0 = o.0 in
          (omega (arith, none, there), o.1)
    ]

    only_zeroed : (u : Task m) (st : Standing m) → IsOfCall p path call u → standing m u ≡ Some st → st.over ≡ false → st.left ≡ last → HasDoneZeroing p path call u
    only_zeroed u st of_call e goes is =
        let at = subst (λ (c : Placed). stand m (m.tree c) u.answers u.done ≡ Some st) of_call e in
        let o = only_behind u.answers u.done st at goes is in
        record { silent = o.1; zeroed = o.0 }

    zeroed_stands : (u : Task m) → IsOfCall p path call u → HasDoneZeroing p path call u → standing m u ≡ Some (record { left = last; forks = []; over = false })
    zeroed_stands u of_call h =
        let all : u.done ≡ many + 0 = let done = h.zeroed in omega (arith, done) in
        ap (λ (c : Placed). stand m (m.tree c) u.answers u.done) of_call
        ∙ ap (λ (xs : List ℕ). stand m tree xs u.done) h.silent
        ∙ ap (λ (n : ℕ). stand m tree [] n) all
        ∙ stand_behind [] 0

pub loops_zero_and_fork : LoopIsZeroing → LoopsZeroAndFork
loops_zero_and_fork zeroes p path call loop = record {
  zeroes = λ answers. zeroes p call loop answers;
  behind = λ u of_call h. zeroed_stands p path call loop u of_call h;
  only = λ u st of_call e goes is. only_zeroed p path call loop u st of_call e goes is;
}
