-- The k-th child of a task has the call of its k-th fork.
use Rattle.std.proofs.Common.{◌≡◌, ◌<◌, ◌≤◌, ◌+◌, ℕ, zero, suc, Bool, true, false, List, [], ◌∷◌, ◌++◌, Some, None, ◌⊎◌, inl, inr, refl, sym, subst, arith}
use Rattle.kt_order.specs.Body.{Stop, Do, Fork}
use Rattle.kt_order.specs.Machine.{Machine, Code}
use Rattle.kt_order.specs.Trace.{hearing}
use Rattle.kt_order.specs.Stand.{Standing, stand}
use Rattle.kt_order.specs.Laws.{Rights}
use Rattle.kt_order.specs.Forest.{Task, Forest, calls}
use Rattle.kt_order.specs.Lawful.{TaskOk, Lawful}
use Rattle.kt_order.specs.Paths.{shift, IsThere, place_of, Known, children_from, grown, tree_of, children_at}
use Rattle.kt_order.specs.Named.{count_of, Named, named}
use Rattle.kt_order.proofs.Ats.{at_more, at_says, at_shape}
use Rattle.kt_order.proofs.PathsAt.{tree_at}
use Rattle.kt_order.proofs.PathThere.{there_child}
use Rattle.kt_order.proofs.Stands.{stand_none, some_is, fork_some}

module _ (m : Machine) where
  -- the calls, numbered from k on, have Q
  abbrev pub EachFrom : (ℕ → m.Call → Type 0) → ℕ → List m.Call → Type 0
  EachFrom Q k [] = Unit {0}
  EachFrom Q k (c ∷ cs) = Q k c × EachFrom Q (suc k) cs

  -- each call that the body may fork, the next one being its k-th, has Q
  abbrev pub ForksFrom : (ℕ → m.Call → Type 0) → ℕ → Code m → Type 0
  ForksFrom Q k (Stop f) = Unit {0}
  ForksFrom Q k (Do p next) = (a : m.Answer) → ForksFrom Q k (next a)
  ForksFrom Q k (Fork c w) = Q k c × ForksFrom Q (suc k) w

  -- so each that it has forked
  pub stand_from : (Q : ℕ → m.Call → Type 0) (k : ℕ) (w : Code m) (answers : List m.Answer) (n : ℕ) (st : Standing m)
      → stand m w answers n ≡ Some st → ForksFrom Q k w → EachFrom Q k st.forks
  stand_from Q k w answers zero st e h = subst (λ (s : Standing m). EachFrom Q k s.forks) (sym (stand_none m w answers st e).1) tt
  stand_from Q k (Stop f) [] (suc zero) st e h = subst (λ (s : Standing m). EachFrom Q k s.forks) (some_is m (record { left = Stop f; forks = []; over = true }) st e) tt
  stand_from Q k (Stop f) [] (suc (suc n)) st e h = absurd (cc e)
  stand_from Q k (Stop f) (a ∷ more) (suc n) st e h = absurd (cc e)
  stand_from Q k (Do p next) answers (suc n) st e h = heard (m.asks p) answers e (λ a more g. stand_from Q k (next a) more n st g (h a))
    where
      heard : (asks : Bool) (answers : List m.Answer) → hearing m asks None (λ a more. stand m (next a) more n) answers ≡ Some st
          → ((a : m.Answer) (more : List m.Answer) → stand m (next a) more n ≡ Some st → EachFrom Q k st.forks) → EachFrom Q k st.forks
      heard true [] g f = absurd (cc g)
      heard true (a ∷ more) g f = f a more g
      heard false answers g f = f m.none answers g
  stand_from Q k (Fork c w) answers (suc n) st e h =
      let s = fork_some m c (stand m w answers n) st e in
      subst (λ (s : Standing m). EachFrom Q k s.forks) (sym s.2) (h.0, stand_from Q (suc k) w answers n s.0 s.1 h.1)

  first_or : (k j : ℕ) → k ≤ j → (k ≡ j) ⊎ (suc k ≤ j)
  first_or k j h = grind arith

  module _ (Q : ℕ → m.Call → Type 0) where
    frame_call : (sub : Known m → (List ℕ → ℕ) → Forest m) (get : Known m) (count : List ℕ → ℕ) (k n : ℕ)
        → EachFrom Q k (calls m (children_from m sub get count k n)) → (j : ℕ) → k ≤ j → j < k + n → Q j (get (j ∷ [])).call
    frame_call sub get count k zero all j low high = absurd (omega arith)
    frame_call sub get count k (suc n) all j low high = elim (first_or k j low) [
      | inl e ↦ subst (λ i. Q i (get (i ∷ [])).call) e all.0
      | inr more ↦ frame_call sub get count (suc k) n all.1 j more (omega arith)
    ]

    pub child_call : (depth : ℕ) (z : List ℕ) (k : ℕ) (get : Known m) (count : List ℕ → ℕ) → IsThere depth count (z ++ k ∷ [])
        → EachFrom Q 0 (calls m (children_at m depth z get count)) → Q k (get (z ++ k ∷ [])).call
    child_call zero [] k get count there all = absurd there
    child_call (suc depth) [] k get count there all = frame_call (grown m depth) get count 0 (count []) all k (omega arith) (let a = there.0 in omega arith)
    child_call zero (i ∷ z) k get count there all = absurd there
    child_call (suc depth) (i ∷ z) k get count there all = child_call depth z k (shift i get) (shift i count) there.1 all

  module _ (depth : ℕ) (rights : Rights m) (root : m.Call) (s : m.Store) (x : Named m) (h : Lawful m rights root s (named m depth x)) where
    -- the law of the task at a path, and of its children
    pub at_kids : (X : Type 0) (p : List ℕ) → IsThere depth (count_of m x.get) p
        → ((kids : Forest m) → kids ≡ children_at m depth p x.get (count_of m x.get) → TaskOk m rights (x.get p) kids → X) → X
    at_kids X p there f =
        let F = tree_of m depth x.get (count_of m x.get) in
        let A = λ (u : Task m) (kids : Forest m). (u ≡ x.get p) × (kids ≡ children_at m depth p x.get (count_of m x.get)) in
        at_says m X (place_of p) F
        (at_more m (λ u kids. A u kids × TaskOk m rights u kids) (λ u kids. X) (λ u kids a. f kids a.0.1 (subst (λ v. TaskOk m rights v kids) a.0.0 a.1)) (place_of p) F
        (at_shape m rights A (place_of p) F h.shape (tree_at m A depth x.get (count_of m x.get) p there (refl, refl))))

    -- what holds of each fork of a body holds of each child
    pub kid_call : (Q : ℕ → m.Call → Type 0) (z : List ℕ) (k : ℕ) → IsThere depth (count_of m x.get) (z ++ k ∷ [])
        → ForksFrom Q 0 (m.tree (x.get z).call) → Q k (x.get (z ++ k ∷ [])).call
    kid_call Q z k there forks =
        at_kids (Q k (x.get (z ++ k ∷ [])).call) z (there_child depth (count_of m x.get) z k there).0 (λ kids is ok.
        child_call Q depth z k x.get (count_of m x.get) there
        (subst (λ (F : Forest m). EachFrom Q 0 (calls m F)) is
        (subst (EachFrom Q 0) (sym ok.forked) (stand_from Q 0 (m.tree (x.get z).call) (x.get z).answers (x.get z).done ok.st ok.stands forks))))
