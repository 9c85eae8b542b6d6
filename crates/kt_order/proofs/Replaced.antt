-- What changes at one path and below it alone is a change at its place.
use Rattle.std.proofs.Common.{◌≡◌, ◌≢◌, ◌<◌, ◌+◌, ℕ, zero, suc, Bool, true, false, List, [], ◌∷◌, ◌++◌, nat_eq, ◌&&◌, refl, sym, ap, subst, ◌∙◌, arith}
use mathlib.Core.Path.{fun_ext}
use Rattle.kt_order.specs.Machine.{Machine}
use Rattle.kt_order.specs.Forest.{Place, Here, Down, Later, Task, Forest, Nil, Node, At, change}
use Rattle.kt_order.specs.Paths.{shift, HasRoom, IsThere, skip, place_below, place_of, Known, children_from, grown, tree_of, children_at}
use Rattle.kt_order.proofs.PathChanges.{eq_self, eq_other}
use Rattle.kt_order.proofs.PathsAdd.{grown_none}
use Rattle.kt_order.specs.Leaves.{is_below, leaves}

and_false : (b : Bool) → b && false ≡ false
and_false true = refl
and_false false = refl

other_below : (k j : ℕ) (q r : List ℕ) → j ≢ k → is_below (k ∷ q) (j ∷ r) ≡ false
other_below k j q r ne = ap (λ (b : Bool). b && is_below q r) (eq_other k j (λ e. ne (sym e)))

module _ {A : Type 0} where
  -- the two agree but at the path and below it
  abbrev pub Off : List ℕ → (List ℕ → A) → (List ℕ → A) → Type 0
  Off q f g = (r : List ℕ) → is_below q r ≡ false → g r ≡ f r

  off_shift : (k : ℕ) (q : List ℕ) (f g : List ℕ → A) → Off (k ∷ q) f g → Off q (shift k f) (shift k g)
  off_shift k q f g off r below = off (k ∷ r) (rw (eq_self k) below)

  off_other : (k j : ℕ) (q : List ℕ) (f g : List ℕ → A) → Off (k ∷ q) f g → j ≢ k → shift j g ≡ shift j f
  off_other k j q f g off ne = fun_ext (λ r. off (j ∷ r) (other_below k j q r ne))

  off_parent : (k j : ℕ) (q : List ℕ) (f g : List ℕ → A) → Off (k ∷ (j ∷ q)) f g → g (k ∷ []) ≡ f (k ∷ [])
  off_parent k j q f g off = off (k ∷ []) (and_false (nat_eq k k))

module _ (m : Machine) where
  -- what differs below one number alone changes one child alone
  module _ (sub : Known m → (List ℕ → ℕ) → Forest m) (get get' : Known m) (count count' : List ℕ → ℕ) (j : ℕ) (sames : (i : ℕ) → i ≢ j → (shift i get' ≡ shift i get) × (shift i count' ≡ shift i count)) where
    others_same : (n k : ℕ) → j < k → children_from m sub get' count' k n ≡ children_from m sub get count k n
    others_same zero k lt = refl
    others_same (suc n) k lt =
        let ne : k ≢ j = omega arith in
        let e = sames k ne in
        ap (λ (f : Known m). Node (f []) (sub f (shift k count')) (children_from m sub get' count' (suc k) n)) e.0
        ∙ (ap (λ c. Node (get (k ∷ [])) (sub (shift k get) c) (children_from m sub get' count' (suc k) n)) e.1
        ∙ ap (Node (get (k ∷ [])) (sub (shift k get) (shift k count))) (others_same n (suc k) (omega arith)))

    one_changes : (f : Task m → Task m) (g : Forest m → Forest m) (r : Place)
        → ((later : Forest m) → Node (get' (j ∷ [])) (sub (shift j get') (shift j count')) later ≡ change m f g r (Node (get (j ∷ [])) (sub (shift j get) (shift j count)) later))
        → (n k d : ℕ) → k + d ≡ j → d < n
        → children_from m sub get' count' k n ≡ change m f g (skip d r) (children_from m sub get count k n)
    one_changes f g r here zero k d e lt = absurd (omega arith)
    one_changes f g r here (suc n) k zero e lt =
        let is : k ≡ j = omega arith in
        subst (λ (i : ℕ). Node (get' (i ∷ [])) (sub (shift i get') (shift i count')) (children_from m sub get' count' (suc i) n) ≡ change m f g r (Node (get (i ∷ [])) (sub (shift i get) (shift i count)) (children_from m sub get count (suc i) n))) (sym is)
        (ap (Node (get' (j ∷ [])) (sub (shift j get') (shift j count'))) (others_same n (suc j) (omega arith)) ∙ here (children_from m sub get count (suc j) n))
    one_changes f g r here (suc n) k (suc d) e lt =
        let ne : k ≢ j = omega arith in
        let x = sames k ne in
        ap (λ (y : Known m). Node (y []) (sub y (shift k count')) (children_from m sub get' count' (suc k) n)) x.0
        ∙ (ap (λ c. Node (get (k ∷ [])) (sub (shift k get) c) (children_from m sub get' count' (suc k) n)) x.1
        ∙ ap (Node (get (k ∷ [])) (sub (shift k get) (shift k count))) (one_changes f g r here n (suc k) d (omega arith) (omega arith)))

  replaced_below : (depth : ℕ) (get get' : Known m) (count count' : List ℕ → ℕ) (k : ℕ) (q : List ℕ) → IsThere depth count (k ∷ q)
      → Off (k ∷ q) get get' → Off (k ∷ q) count count'
      → grown m depth get' count' ≡ change m (λ u. get' (k ∷ q)) (λ K. children_at m depth (k ∷ q) get' count') (place_below k q) (grown m depth get count)
  replaced_below zero get get' count count' k q there og oc = absurd there
  replaced_below (suc depth) get get' count count' k [] there og oc =
      ap (children_from m (grown m depth) get' count' 0) (oc [] refl)
      ∙ one_changes (grown m depth) get get' count count' k (λ i ne. (off_other k i [] get get' og ne, off_other k i [] count count' oc ne))
      (λ u. get' (k ∷ [])) (λ K. children_at m (suc depth) (k ∷ []) get' count') Here (λ later. refl) (count []) 0 k (omega arith) there.0
  replaced_below (suc depth) get get' count count' k (j ∷ q) there og oc =
      ap (children_from m (grown m depth) get' count' 0) (oc [] refl)
      ∙ one_changes (grown m depth) get get' count count' k (λ i ne. (off_other k i (j ∷ q) get get' og ne, off_other k i (j ∷ q) count count' oc ne))
      (λ u. get' (k ∷ (j ∷ q))) (λ K. children_at m (suc depth) (k ∷ (j ∷ q)) get' count') (Down (place_below j q))
      (λ later.
      ap (λ u. Node u (grown m depth (shift k get') (shift k count')) later) (off_parent k j q get get' og)
      ∙ ap (λ K. Node (get (k ∷ [])) K later) (replaced_below depth (shift k get) (shift k get') (shift k count) (shift k count') j q there.1
      (off_shift k (j ∷ q) get get' og) (off_shift k (j ∷ q) count count' oc)))
      (count []) 0 k (omega arith) there.0

  pub tree_replaced : (depth : ℕ) (get get' : Known m) (count count' : List ℕ → ℕ) (q : List ℕ) → IsThere depth count q
      → Off q get get' → Off q count count'
      → tree_of m depth get' count' ≡ change m (λ u. get' q) (λ K. children_at m depth q get' count') (place_of q) (tree_of m depth get count)
  tree_replaced depth get get' count count' [] there og oc = refl
  tree_replaced depth get get' count count' (k ∷ q) there og oc =
      ap (λ u. Node u (grown m depth get' count') Nil) (og [] refl)
      ∙ ap (λ K. Node (get []) K Nil) (replaced_below depth get get' count count' k q there og oc)

  -- children without children
  leaves_from : (depth : ℕ) (at : ℕ → Task m) (get : Known m) (count : List ℕ → ℕ) → ((i : ℕ) → get (i ∷ []) ≡ at i) → ((i : ℕ) → count (i ∷ []) ≡ 0)
      → (n k : ℕ) → children_from m (grown m depth) get count k n ≡ leaves m at k n
  leaves_from depth at get count here none zero k = refl
  leaves_from depth at get count here none (suc n) k =
      ap (λ K. Node (get (k ∷ [])) K (children_from m (grown m depth) get count (suc k) n)) (grown_none m depth (shift k get) (shift k count) (none k))
      ∙ (ap (λ u. Node u Nil (children_from m (grown m depth) get count (suc k) n)) (here k)
      ∙ ap (Node (at k) Nil) (leaves_from depth at get count here none n (suc k)))

  pub children_leaves : (depth : ℕ) (q : List ℕ) (at : ℕ → Task m) (get : Known m) (count : List ℕ → ℕ) (n : ℕ) → HasRoom depth q → count q ≡ n
      → ((i : ℕ) → get (q ++ i ∷ []) ≡ at i) → ((i : ℕ) → count (q ++ i ∷ []) ≡ 0) → children_at m depth q get count ≡ leaves m at 0 n
  children_leaves zero q at get count n room is here none = absurd room
  children_leaves (suc depth) [] at get count n room is here none =
      ap (children_from m (grown m depth) get count 0) is ∙ leaves_from depth at get count here none n 0
  children_leaves (suc depth) (k ∷ q) at get count n room is here none =
      children_leaves depth q at (shift k get) (shift k count) n room is here none

  -- a change goes by the task that is there
  pub change_alike : (f f' : Task m → Task m) (g g' : Forest m → Forest m) (q : Place) (F : Forest m)
      → At m (λ u kids. (f u ≡ f' u) × (g kids ≡ g' kids)) q F → change m f g q F ≡ change m f' g' q F
  change_alike f f' g g' q Nil at = refl
  change_alike f f' g g' Here (Node u kids later) at = ap (λ v. Node v (g kids) later) at.0 ∙ ap (λ K. Node (f' u) K later) at.1
  change_alike f f' g g' (Down q) (Node u kids later) at = ap (λ K. Node u K later) (change_alike f f' g g' q kids at)
  change_alike f f' g g' (Later q) (Node u kids later) at = ap (Node u kids) (change_alike f f' g g' q later at)
