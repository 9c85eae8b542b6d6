-- One entry of a function of paths, changed.
use Rattle.std.proofs.Common.{◌≡◌, ◌≢◌, ℕ, ◌⊎◌, Bool, true, false, cond, List, [], ◌∷◌, sym, refl, ap, ◌∙◌, subst, inl, inr}
use mathlib.Core.Option.{Option, none, some, some-injective}
use mathlib.Core.Path.{fun_ext}
use lib.ListN.{get_elem?}
use Rattle.kt_order.specs.Paths.{same_path, set_at}
use Rattle.kt_order.proofs.PathChanges.{eq_self}
use Rattle.kt_order.proofs.Squares as squares
use Rattle.kt_runs.specs.ByPath.{Path, child}
use Rattle.kt_rule.specs.declared.views.Setup.{Setup}
use Rattle.kt_rule.specs.Paths.{parent_of, number_of, put}
use Rattle.kt_rule.specs.Lies.{Lie, Lies, IndexLie, task_of, blank, index_of, index_in, task_or_index, get_of}

true_not_false : (b : Bool) → b ≡ true → b ≡ false → ⊥
true_not_false true e f = cc
true_not_false false e f = cc

pub same_self : (p : Path) → same_path p p ≡ true
same_self [] = refl
same_self (k ∷ p) = rw (eq_self k, same_self p) refl

pub same_is : (p q : Path) → same_path p q ≡ true → p ≡ q
same_is p q e = squares.same_is p q e

pub same_not : (p q : Path) → p ≢ q → same_path p q ≡ false
same_not p q n = go (same_path p q) refl
  where
    go : (b : Bool) → same_path p q ≡ b → b ≡ false
    go true e = absurd (n (same_is p q e))
    go false e = refl

pub same_ne : (p q : Path) → same_path p q ≡ false → p ≢ q
same_ne p q e is = true_not_false (same_path p q) (subst (λ (r : Path). same_path p r ≡ true) is (same_self p)) e

module _ {A : Type 0} (f : Path → A) (p : Path) (x : A) where
  pub put_here : put f p x p ≡ x
  unfolding put
  put_here = rw (same_self p) refl

  pub put_else : (q : Path) → p ≢ q → put f p x q ≡ f q
  unfolding put
  put_else q n = rw (same_not q p (λ e. n (sym e))) refl

  -- the entry is the changed one, or it is as it was
  pub put_cases : (q : Path) → ((p ≡ q) × (put f p x q ≡ x)) ⊎ ((p ≢ q) × (put f p x q ≡ f q))
  put_cases q = go (same_path q p) refl
    where
      go : (b : Bool) → same_path q p ≡ b → ((p ≡ q) × (put f p x q ≡ x)) ⊎ ((p ≢ q) × (put f p x q ≡ f q))
      go true e = let is : p ≡ q = sym (same_is q p e) in inl (is, subst (λ (r : Path). put f p x r ≡ x) is put_here)
      go false e = let n : p ≢ q = (λ d. same_ne q p e (sym d)) in inr (n, put_else q n)

-- an entry of the changed function
pub at_put : {A : Type 0} (f : Path → Option A) (p q : Path) (x y : A) → put f p (some x) q ≡ some y
    → ((p ≡ q) × (x ≡ y)) ⊎ ((p ≢ q) × (f q ≡ some y))
at_put f p q x y e = elim (put_cases f p (some x) q) [
  | inl h ↦ inl (h.0, some-injective x y (sym h.1 ∙ e))
  | inr h ↦ inr
      (h.0, sym h.1 ∙ e)
]

-- no index stands below a task that is no loop under way
pub no_index : (j : Setup) (p : Path) (i : ℕ) (t : Lie) → t.indexes ≡ [] → index_in j p i (some t) ≡ blank j
no_index j p i t e = ap (λ (xs : List IndexLie). index_of j p t.berth.call i (get_elem? xs i)) e

-- the core of changed lies is the changed core
pub get_put : (j : Setup) (lies : Lies) (p : Path) (t : Lie) → ((i : ℕ) → index_in j p i (some t) ≡ index_in j p i (lies p))
    → get_of j (put lies p (some t)) ≡ set_at p (task_of j p t) (get_of j lies)
unfolding put
get_put j lies p t same = fun_ext (λ q. go q (same_path q p) refl)
  where
    parent : (r : Path) (i : ℕ) (b : Bool) → same_path r p ≡ b → index_in j r i (cond b (some t) (lies r)) ≡ index_in j r i (lies r)
    parent r i true e = subst (λ (z : Path). index_in j z i (some t) ≡ index_in j z i (lies z)) (sym (same_is r p e)) (same i)
    parent r i false e = refl

    below : (q : Path) (o : Option Lie) → task_or_index j (λ r. cond (same_path r p) (some t) (lies r)) q o ≡ task_or_index j lies q o
    below q (some y) = refl
    below q none = parent (parent_of q) (number_of q) (same_path (parent_of q) p) refl

    go : (q : Path) (b : Bool) → same_path q p ≡ b
        → task_or_index j (λ r. cond (same_path r p) (some t) (lies r)) q (cond b (some t) (lies q)) ≡ cond b (task_of j p t)
        (get_of j lies q)
    go q true e = ap (λ (r : Path). task_of j r t) (same_is q p e)
    go q false e = below q (lies q)

pub get_at : (j : Setup) (lies : Lies) (p : Path) (t : Lie) → lies p ≡ some t → get_of j lies p ≡ task_of j p t
get_at j lies p t e = ap (task_or_index j lies p) e

-- where no task lies an index may stand
pub get_none : (j : Setup) (lies : Lies) (p : Path) → lies p ≡ none
    → get_of j lies p ≡ index_in j (parent_of p) (number_of p) (lies (parent_of p))
get_none j lies p e = ap (task_or_index j lies p) e

-- a child's parent and its number
pub parent_is : (p : Path) (i : ℕ) → parent_of (child p i) ≡ p
parent_is [] i = refl
parent_is (k ∷ []) i = refl
parent_is (k ∷ (l ∷ p)) i = ap (λ (z : Path). k ∷ z) (parent_is (l ∷ p) i)

pub number_is : (p : Path) (i : ℕ) → number_of (child p i) ≡ i
number_is [] i = refl
number_is (k ∷ []) i = refl
number_is (k ∷ (l ∷ p)) i = number_is (l ∷ p) i

-- a child that is no task is an index, if anything
pub get_child : (j : Setup) (lies : Lies) (p : Path) (i : ℕ) → lies (child p i) ≡ none → get_of j lies (child p i) ≡ index_in j p i (lies p)
get_child j lies p i e = get_none j lies (child p i) e ∙ (λ k. index_in j (parent_is p i k) (number_is p i k) (lies (parent_is p i k)))
