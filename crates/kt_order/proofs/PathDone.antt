-- With the root finished each task is, and the entries of the run are those of the paths, in order.
use Rattle.std.proofs.Common.{◌≡◌, ℕ, zero, suc, List, [], ◌∷◌, ◌++◌, map, refl, sym, ap, subst, ◌∙◌, append-nil}
use Rattle.std.proofs.lemmas.List.{map-append}
use Rattle.kt_order.specs.Machine.{Machine}
use Rattle.kt_order.specs.Sequential.{whole}
use Rattle.kt_order.specs.Laws.{Rights, Laws}
use Rattle.kt_order.specs.Forest.{Finished, Place, Here, Down, Later, Task, Forest, Nil, Node, At}
use Rattle.kt_order.specs.Events.{AllFinished}
use Rattle.kt_order.specs.Lawful.{PhaseOk, TaskOk, Shape, Lawful}
use Rattle.kt_order.specs.Shown.{entry_of, settled}
use Rattle.kt_order.specs.Paths.{shift, IsThere, place_of, Known, children_from, grown, tree_of}
use Rattle.kt_order.specs.Named.{count_of, Named, named}
use Rattle.kt_order.specs.Listed.{each_from, listed, all_paths}
use Rattle.kt_order.proofs.PathsAt.{tree_at}
use Rattle.kt_order.proofs.Ats.{at_says, at_more}
use Rattle.kt_order.proofs.Kept.{whole_done}

map_map : {A B C : Type 0} (f : B → C) (g : A → B) (xs : List A) → map f (map g xs) ≡ map (λ x. f (g x)) xs
map_map f g [] = refl
map_map f g (x ∷ xs) = ap (λ ys. f (g x) ∷ ys) (map_map f g xs)

module _ (m : Machine) where
  children_settled : (depth : ℕ)
      → ((get : Known m) (count : List ℕ → ℕ) → settled m (grown m depth get count) ≡ map (λ p. entry_of m (get p)) (listed depth count))
      → (get : Known m) (count : List ℕ → ℕ) (k n : ℕ)
      → settled m (children_from m (grown m depth) get count k n) ≡ map (λ p. entry_of m (get p)) (each_from (listed depth) count k n)
  children_settled depth deeper get count k zero = refl
  children_settled depth deeper get count k (suc n) =
      let f = (λ (p : List ℕ). entry_of m (get p)) in
      (λ i. entry_of m (get (k ∷ [])) ∷ (deeper (shift k get) (shift k count) i ++ children_settled depth deeper get count (suc k) n i))
      ∙ ap (λ es. entry_of m (get (k ∷ [])) ∷ es)
      (ap (λ es. es ++ map f (each_from (listed depth) count (suc k) n)) (sym (map_map f (λ p. k ∷ p) (listed depth (shift k count))))
      ∙ sym (map-append f (map (λ p. k ∷ p) (listed depth (shift k count))) (each_from (listed depth) count (suc k) n)))

  grown_settled : (depth : ℕ) (get : Known m) (count : List ℕ → ℕ)
      → settled m (grown m depth get count) ≡ map (λ p. entry_of m (get p)) (listed depth count)
  grown_settled zero get count = refl
  grown_settled (suc depth) get count = children_settled depth (grown_settled depth) get count 0 (count [])

  pub tree_settled : (depth : ℕ) (get : Known m) (count : List ℕ → ℕ)
      → settled m (tree_of m depth get count) ≡ map (λ p. entry_of m (get p)) (all_paths depth count)
  tree_settled depth get count = ap (λ es. entry_of m (get []) ∷ es) (append-nil (settled m (grown m depth get count)) ∙ grown_settled depth get count)

  module _ (rights : Rights m) (l : Laws m rights) where
    kids_done : (u : Task m) (kids : Forest m) → TaskOk m rights u kids → u.phase ≡ Finished → AllFinished m kids
    kids_done u kids ok e = (subst (λ ph. PhaseOk m ph u ok.st kids) e ok.phase).1

    at_done : (A : Task m → Forest m → Type 0) (q : Place) (F : Forest m) → Shape m rights F → AllFinished m F → At m A q F
        → At m (λ u kids. A u kids × (u.phase ≡ Finished)) q F
    at_done A q Nil sh fin at = at
    at_done A Here (Node u kids later) sh fin at = (at, fin.0)
    at_done A (Down q) (Node u kids later) sh fin at = at_done A q kids sh.2 (kids_done u kids sh.0 fin.0) at
    at_done A (Later q) (Node u kids later) sh fin at = at_done A q later sh.3 fin.1 at

    module _ (depth : ℕ) (root : m.Call) (s : m.Store) (x : Named m) (h : Lawful m rights root s (named m depth x)) (fin : (x.get []).phase ≡ Finished) where
      pub done_there : (p : List ℕ) → IsThere depth (count_of m x.get) p → (x.get p).phase ≡ Finished
      done_there p there =
          let F = tree_of m depth x.get (count_of m x.get) in
          let A = λ (u : Task m) (kids : Forest m). u ≡ x.get p in
          at_says m ((x.get p).phase ≡ Finished) (place_of p) F
          (at_more m (λ u kids. A u kids × (u.phase ≡ Finished)) (λ u kids. (x.get p).phase ≡ Finished) (λ u kids a. ap (λ (v : Task m). v.phase) (sym a.0) ∙ a.1) (place_of p) F
          (at_done A (place_of p) F h.shape (fin, tt) (tree_at m A depth x.get (count_of m x.get) p there refl)))

      pub run_is : whole m root s ≡ record { store = x.store; entries = map (λ p. entry_of m (x.get p)) (all_paths depth (count_of m x.get)) }
      run_is = whole_done m rights l root s (named m depth x) h (fin, tt) ∙ ap (λ es. record { store = x.store; entries = es }) (tree_settled depth x.get (count_of m x.get))
