-- Changes of a frame of tasks without children.
use Rattle.std.proofs.Common.{◌≡◌, ◌≢◌, ◌<◌, ◌≤◌, ◌+◌, ℕ, zero, suc, Bool, cond, List, [], ◌∷◌, nat_eq, refl, sym, ap, subst, ◌∙◌, arith}
use Rattle.kt_order.specs.Machine.{Machine}
use Rattle.kt_order.specs.Forest.{Running, Ended, Place, Here, Down, Later, Task, Forest, Nil, Node, change, add_last, fresh}
use Rattle.kt_order.specs.Events.{Now, State, put, in_phase, forked, ended, same_frame, run}
use Rattle.kt_order.specs.Loops.{nth_place, child, take_events}
use Rattle.kt_order.proofs.PathChanges.{eq_self, eq_other}
use Rattle.kt_order.proofs.Ats.{change_twice}
use Rattle.kt_order.specs.Leaves.{leaves}

module _ (m : Machine) where
  pub leaves_alike : (f g : ℕ → Task m) (k n : ℕ) → ((j : ℕ) → k ≤ j → j < k + n → f j ≡ g j) → leaves m f k n ≡ leaves m g k n
  leaves_alike f g k zero same = refl
  leaves_alike f g k (suc n) same =
      ap (λ u. Node u Nil (leaves m f (suc k) n)) (same k (omega arith) (omega arith)) ∙ ap (Node (g k) Nil) (leaves_alike f g (suc k) n (λ j le lt. same j (omega (arith, le)) (omega (arith, lt))))

  -- the tasks with the one of number i changed
  abbrev pub changed_at : (Task m → Task m) → ℕ → (ℕ → Task m) → ℕ → Task m
  changed_at h i f j = cond (nat_eq j i) (h (f j)) (f j)

  other_at : (h : Task m → Task m) (i : ℕ) (f : ℕ → Task m) (j : ℕ) → j ≢ i → changed_at h i f j ≡ f j
  other_at h i f j ne = ap (λ (b : Bool). cond b (h (f j)) (f j)) (eq_other j i ne)

  self_at : (h : Task m → Task m) (i : ℕ) (f : ℕ → Task m) → changed_at h i f i ≡ h (f i)
  self_at h i f = ap (λ (b : Bool). cond b (h (f i)) (f i)) (eq_self i)

  pub change_leaf : (h : Task m → Now m) (f : ℕ → Task m) (n i k j : ℕ) → k + i ≡ j
      → change m (put m h) (same_frame m) (nth_place i) (leaves m f k n) ≡ leaves m (changed_at (put m h) j f) k n
  change_leaf h f zero i k j e = refl
  change_leaf h f (suc n) zero k j e =
      let is : k ≡ j = omega (arith, e) in
      subst (λ (i : ℕ). Node (put m h (f k)) Nil (leaves m f (suc k) n) ≡ leaves m (changed_at (put m h) i f) k (suc n)) is
      (ap (λ u. Node u Nil (leaves m f (suc k) n)) (sym (self_at (put m h) k f))
      ∙ ap (Node (changed_at (put m h) k f k) Nil) (leaves_alike f (changed_at (put m h) k f) (suc k) n (λ i le lt. sym (other_at (put m h) k f i (λ same. omega (arith, le, same))))))
  change_leaf h f (suc n) (suc i) k j e =
      let ne : k ≢ j = omega (arith, e) in
      ap (λ u. Node u Nil (change m (put m h) (same_frame m) (nth_place i) (leaves m f (suc k) n))) (sym (other_at (put m h) j f k ne))
      ∙ ap (Node (changed_at (put m h) j f k) Nil) (change_leaf h f n i (suc k) j (omega (arith, e)))

  -- a change of a child is a change of the children
  pub child_change : (f : Task m → Task m) (g : Forest m → Forest m) (q : Place) (i : ℕ) (F : Forest m)
      → change m f g (child q i) F ≡ change m (λ u. u) (λ K. change m f g (nth_place i) K) q F
  child_change f g q i Nil = nothing q
    where
      nothing : (q : Place) → change m f g (child q i) Nil ≡ Nil
      nothing q = refl
  child_change f g Here i (Node u kids later) = refl
  child_change f g (Down q) i (Node u kids later) = ap (λ K. Node u K later) (child_change f g q i kids)
  child_change f g (Later q) i (Node u kids later) = ap (Node u kids) (child_change f g q i later)

  pub change_none : (q : Place) (F : Forest m) → change m (λ u. u) (λ K. K) q F ≡ F
  change_none q Nil = refl
  change_none Here (Node u kids later) = refl
  change_none (Down q) (Node u kids later) = ap (λ K. Node u K later) (change_none q kids)
  change_none (Later q) (Node u kids later) = ap (Node u kids) (change_none q later)

  -- n indexes are taken, of a frame and of its tasks
  abbrev pub taken : ℕ → ℕ → Forest m → Forest m
  taken at zero K = K
  taken at (suc n) K = taken (suc at) n (change m (put m (in_phase m Running)) (same_frame m) (nth_place at) K)

  abbrev pub taken_at : ℕ → ℕ → (ℕ → Task m) → ℕ → Task m
  taken_at at zero f = f
  taken_at at (suc n) f = taken_at (suc at) n (changed_at (put m (in_phase m Running)) at f)

  pub take_run : (n at : ℕ) (q : Place) (x : State m)
      → run m (take_events q at n) x ≡ record { forest = change m (λ u. u) (taken at n) q x.forest; store = x.store }
  take_run zero at q x = ap (λ F. record { forest = F; store = x.store }) (sym (change_none q x.forest))
  take_run (suc n) at q x =
      let g = λ (K : Forest m). change m (put m (in_phase m Running)) (same_frame m) (nth_place at) K in
      take_run n (suc at) q (record { forest = change m (put m (in_phase m Running)) (same_frame m) (child q at) x.forest; store = x.store })
      ∙ ap (λ F. record { forest = F; store = x.store })
      (ap (change m (λ u. u) (taken (suc at) n) q) (child_change (put m (in_phase m Running)) (same_frame m) q at x.forest)
      ∙ change_twice m (λ u. u) (λ u. u) g (taken (suc at) n) q x.forest)

  pub taken_leaves : (n at : ℕ) (f : ℕ → Task m) (len : ℕ) → taken at n (leaves m f 0 len) ≡ leaves m (taken_at at n f) 0 len
  taken_leaves zero at f len = refl
  taken_leaves (suc n) at f len =
      ap (taken (suc at) n) (change_leaf (in_phase m Running) f len at 0 at (omega arith))
      ∙ taken_leaves n (suc at) (changed_at (put m (in_phase m Running)) at f) len

  -- a task more at the end
  pub leaves_last : (f : ℕ → Task m) (n k : ℕ) → add_last m (f (k + n)) (leaves m f k n) ≡ leaves m f k (suc n)
  leaves_last f zero k = ap (λ i. Node (f i) Nil Nil) (omega arith)
  leaves_last f (suc n) k = ap (Node (f k) Nil) (ap (λ i. add_last m (f i) (leaves m f (suc k) n)) (omega arith) ∙ leaves_last f n (suc k))

  -- the frame once these calls were forked
  abbrev pub add_all : List m.Call → Forest m → Forest m
  add_all [] K = K
  add_all (c ∷ cs) K = add_all cs (add_last m (fresh m c) K)

  -- the task once it forked so many and ended
  abbrev pub begun : ℕ → Task m → Task m
  begun zero u = put m (ended m) u
  begun (suc n) u = begun n (put m (forked m) u)

  pub begun_is : (n : ℕ) (u : Task m) → begun n u ≡ record { call = u.call; phase = Ended; answers = u.answers; done = u.done + suc n }
  begun_is zero u = ap (λ d. record { call = u.call; phase = Ended; answers = u.answers; done = d }) (omega arith)
  begun_is (suc n) u = begun_is n (put m (forked m) u) ∙ ap (λ d. record { call = u.call; phase = Ended; answers = u.answers; done = d }) (omega arith)
