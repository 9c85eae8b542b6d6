-- Two paths of which neither begins with the other have separate places, and a path that goes on has a place below.
use Rattle.std.proofs.Common.{◌≡◌, ◌≢◌, ℕ, zero, suc, ◌⊎◌, List, [], ◌∷◌, ◌++◌, sym, refl, ap, subst, inl, inr, arith}
use Rattle.kt_order.specs.Forest.{Place, Here, Down}
use Rattle.kt_order.specs.Paths.{skip, place_below, place_of}
use Rattle.kt_order.specs.Places.{Separate, IsAbove}
use Rattle.kt_order.specs.Prefixes.{AreSeparate}

-- the place of what is left of a path, in the task that it has come to
abbrev within : List ℕ → Place
within [] = Here
within (j ∷ p) = Down (place_below j p)

below_is : (k : ℕ) (p : List ℕ) → place_below k p ≡ skip k (within p)
below_is k [] = refl
below_is k (j ∷ p) = refl

skip_separate : (n : ℕ) (a b : Place) → Separate a b → Separate (skip n a) (skip n b)
skip_separate zero a b h = h
skip_separate (suc n) a b h = skip_separate n a b h

skip_above : (n : ℕ) (a b : Place) → IsAbove a b → IsAbove (skip n a) (skip n b)
skip_above zero a b h = h
skip_above (suc n) a b h = skip_above n a b h

-- places in two tasks of one frame
two_tasks : (k j : ℕ) → k ≢ j → (p q : List ℕ) → Separate (skip k (within p)) (skip j (within q))
two_tasks zero zero ne p q = absurd (ne refl)
two_tasks zero (suc j) ne [] q = tt
two_tasks zero (suc j) ne (i ∷ p) q = tt
two_tasks (suc k) zero ne p [] = tt
two_tasks (suc k) zero ne p (i ∷ q) = tt
two_tasks (suc k) (suc j) ne p q = two_tasks k j (λ e. ne (ap suc e)) p q

same_or : (k j : ℕ) → (k ≡ j) ⊎ (k ≢ j)
same_or k j = grind arith

-- and the same task, if what is left is separate
one_task : (k j : ℕ) (p q : List ℕ) → k ≡ j → Separate (within p) (within q) → Separate (skip k (within p)) (skip j (within q))
one_task k j p q e h = subst (λ n. Separate (skip k (within p)) (skip n (within q))) e (skip_separate k (within p) (within q) h)

separate_below : (k j : ℕ) (p q : List ℕ) → AreSeparate (k ∷ p) (j ∷ q) → Separate (skip k (within p)) (skip j (within q))
separate_below k j [] q apart = elim (same_or k j) [
  | inr ne ↦ two_tasks k j ne [] q
  | inl e ↦ absurd (apart.0 (e, tt))
]
separate_below k j (i ∷ p) [] apart = elim (same_or k j) [
  | inr ne ↦ two_tasks k j ne (i ∷ p) []
  | inl e ↦ absurd (apart.1 (sym e, tt))
]
separate_below k j (i ∷ p) (c ∷ q) apart = elim (same_or k j) [
  | inr ne ↦ two_tasks k j ne (i ∷ p) (c ∷ q)
  | inl e ↦ one_task k j (i ∷ p) (c ∷ q) e
      (subst (λ a. Separate a (place_below c q)) (sym (below_is i p)) (subst (λ b. Separate (skip i (within p)) b) (sym (below_is c q))
      (separate_below i c p q (λ b. apart.0 (e, b), λ b. apart.1 (sym e, b)))))
]

pub separate_places : (p q : List ℕ) → AreSeparate p q → Separate (place_of p) (place_of q)
separate_places [] q apart = absurd (apart.0 tt)
separate_places (k ∷ p) [] apart = absurd (apart.1 tt)
separate_places (k ∷ p) (j ∷ q) apart =
    subst (λ a. Separate a (place_below j q)) (sym (below_is k p)) (subst (λ b. Separate (skip k (within p)) b) (sym (below_is j q)) (separate_below k j p q apart))

above_below : (k : ℕ) (p : List ℕ) (j : ℕ) (q : List ℕ) → IsAbove (place_below k p) (place_below k (p ++ j ∷ q))
above_below k [] j q = skip_above k Here (Down (place_below j q)) tt
above_below k (i ∷ p) j q = skip_above k (Down (place_below i p)) (Down (place_below i (p ++ j ∷ q))) (above_below i p j q)

pub above_place : (p : List ℕ) (j : ℕ) (q : List ℕ) → IsAbove (place_of p) (place_of (p ++ j ∷ q))
above_place [] j q = tt
above_place (k ∷ p) j q = above_below k p j q
