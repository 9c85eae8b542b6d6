-- The tasks of a lawful state, each with what it has at hand, weigh no more than the sequential run.
use Rattle.std.proofs.Common.{◌≡◌, ◌≤◌, ◌+◌, ℕ, zero, suc, Bool, true, false, cond, List, [], ◌∷◌, ◌++◌, Some, None, refl, ap, subst, arith}
use Rattle.kt_order.specs.Body.{Stop, Do, Fork}
use Rattle.kt_order.specs.Machine.{Machine, Code}
use Rattle.kt_order.specs.Sequential.{Entry, Run, alone, each, whole, whole_within}
use Rattle.kt_order.specs.Trace.{hearing}
use Rattle.kt_order.specs.Stand.{Standing, stand}
use Rattle.kt_order.specs.Forest.{Forest, Nil, Node}
use Rattle.kt_order.specs.Rest.{left, left_of, rest_of_one, rest}
use Rattle.kt_order.specs.Laws.{Rights, Laws}
use Rattle.kt_order.specs.Events.{State}
use Rattle.kt_order.specs.Lawful.{Shape, Lawful}
use Rattle.kt_order.specs.Weights.{acts_weigh, first_weigh, at_hand, tasks_weigh, entries_weigh}
use Rattle.kt_order.proofs.Stands.{stand_none, some_is, fork_some}

module _ (m : Machine) (of_call : m.Call → ℕ) (of_act : m.Act → ℕ) where
  abbrev acts_of : Code m → List m.Answer → ℕ
  acts_of = acts_weigh m of_call of_act

  abbrev first_of : ℕ → Code m → List m.Answer → ℕ
  first_of = first_weigh m of_call of_act

  abbrev next_of : Code m → ℕ
  next_of = at_hand m of_call of_act

  abbrev bodies : List (Entry m) → ℕ
  bodies = entries_weigh m of_call of_act

  -- what was done, and then what is left
  split : (w : Code m) (answers more : List m.Answer) (n : ℕ) (st : Standing m) → stand m w answers n ≡ Some st
      → acts_of w (answers ++ more) ≡ first_of n w answers + acts_of st.left more
  split w answers more zero st e =
      let s = stand_none m w answers st e in
      rw (s.0, s.1) (omega arith)
  split (Stop f) [] more (suc zero) st e =
      let same : acts_of (Stop f) more ≡ acts_of st.left more = ap (λ (x : Standing m). acts_of x.left more) (some_is m (record { left = Stop f; forks = []; over = true }) st e) in
      omega (arith, same)
  split (Stop f) [] more (suc (suc n)) st e = cc
  split (Stop f) (b ∷ answers) more (suc n) st e = cc
  split (Do p k) answers more (suc n) st e = heard (λ a later h. split (k a) later more n st h) (m.asks p) answers e
    where
      heard : ((a : m.Answer) (later : List m.Answer) → stand m (k a) later n ≡ Some st → acts_of (k a) (later ++ more) ≡ first_of n (k a) later + acts_of st.left more)
          → (b : Bool) (answers : List m.Answer) → hearing m b None (λ a more. stand m (k a) more n) answers ≡ Some st
          → hearing m b 0 (λ a more. of_act p + acts_of (k a) more) (answers ++ more)
          ≡ hearing m b 0 (λ a more. of_act p + first_of n (k a) more) answers + acts_of st.left more
      heard below true [] h = cc
      heard below true (a ∷ later) h = let deeper = below a later h in omega (arith, deeper)
      heard below false answers h = let deeper = below m.none answers h in omega (arith, deeper)
  split (Fork c w) answers more (suc n) st e =
      let s = fork_some m c (stand m w answers n) st e in
      let below = split w answers more n s.0 s.1 in
      let same : acts_of st.left more ≡ acts_of s.0.left more = ap (λ (x : Standing m). acts_of x.left more) s.2 in
      omega (arith, below, same)

  bodies_append : (xs ys : List (Entry m)) → bodies (xs ++ ys) ≡ bodies xs + bodies ys
  bodies_append [] ys = omega arith
  bodies_append (e ∷ xs) ys = let more = bodies_append xs ys in omega (arith, more)

  -- a call is one of the bodies of its run
  call_within : (n : ℕ) (c : m.Call) (s : m.Store) → of_call c ≤ bodies (whole_within m n c s).entries
  call_within zero c s = omega arith
  call_within (suc n) c s = omega arith

  module _ (quiet : (p : m.Act) (s : m.Store) → m.asks p ≡ false → m.answer p s ≡ m.none) where
    -- what is at hand is a part of what a body does, with the runs of the calls that it forks
    less : (w : Code m) (s t : m.Store) → next_of w ≤ acts_of w (alone m w s).answers + bodies (each m (whole m) (alone m w s).forks t).entries
    less (Stop f) s t = omega arith
    less (Do p k) s t = by_asks (less (k m.none) (m.after p s) t) (m.asks p) refl
      where
        by_asks : next_of (k m.none) ≤ acts_of (k m.none) (alone m (k m.none) (m.after p s)).answers + bodies (each m (whole m) (alone m (k m.none) (m.after p s)).forks t).entries
            → (b : Bool) → m.asks p ≡ b → of_act p + cond b 0 (next_of (k m.none))
            ≤ hearing m b 0 (λ a more. of_act p + acts_of (k a) more) (cond b (m.answer p s ∷ []) [] ++ (alone m (k (m.answer p s)) (m.after p s)).answers)
            + bodies (each m (whole m) (alone m (k (m.answer p s)) (m.after p s)).forks t).entries
        by_asks below true e = omega arith
        by_asks below false e = rw (quiet p s e) (omega (arith, below))
    less (Fork c w) s t =
        let r = whole m c t in
        let below = less w s r.store in
        let one = call_within (m.height c) c t in
        let both = bodies_append r.entries (each m (whole m) (alone m w s).forks r.store).entries in
        omega (arith, below, one, both)

    module _ (r : Rights m) where
      rests : (F : Forest m) → Shape m r F → (s : m.Store) → tasks_weigh m of_call of_act F ≤ bodies (rest m F s).entries
      rests Nil sh s = omega arith
      rests (Node u kids later) sh s =
          let a = alone m (left m u) s in
          let b = rest m kids a.store in
          let forked = each m (whole m) a.forks b.store in
          let done = split (m.tree u.call) u.answers a.answers u.done sh.0.st sh.0.stands in
          let stood : left m u ≡ sh.0.st.left = ap (left_of m) sh.0.stands in
          let same : acts_of (left m u) a.answers ≡ acts_of sh.0.st.left a.answers = ap (λ (w : Code m). acts_of w a.answers) stood in
          let next = less (left m u) s b.store in
          let below = rests kids sh.2 a.store in
          let beside = rests later sh.3 (rest_of_one m u (rest m kids) s).store in
          let inner = bodies_append b.entries forked.entries in
          let outer = bodies_append (b.entries ++ forked.entries) (rest m later (rest_of_one m u (rest m kids) s).store).entries in
          omega (arith, done, same, next, below, beside, inner, outer)

  pub weigh_no_more : (r : Rights m) → Laws m r → (root : m.Call) (s : m.Store) (x : State m) → Lawful m r root s x
      → tasks_weigh m of_call of_act x.forest ≤ bodies (whole m root s).entries
  weigh_no_more r laws root s x lawful =
      subst (λ (y : Run m). tasks_weigh m of_call of_act x.forest ≤ bodies y.entries) lawful.rest (rests laws.quiet r x.forest lawful.shape x.store)
