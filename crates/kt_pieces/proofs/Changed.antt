-- One worker's entry changed, and the sums over workers after it.
use Rattle.std.proofs.Common.{◌≡◌, ◌≢◌, ℕ, zero, suc, ◌+◌, ◌<◌, ◌≤◌, ◌⊎◌, Bool, cond, sym, refl, ap, ◌∙◌, inl, inr, arith, eq-eqb, ne_eqb}
use Rattle.kt_rule.specs.LoopWords.{sum_below}
use Rattle.kt_pieces.specs.Changes.{at_worker}

pub one_or : (k j : ℕ) → (k ≡ j) ⊎ (k ≢ j)
one_or k j = grind arith

module _ {A : Type 0} (f : ℕ → A) (k : ℕ) (x : A) where
  pub at_here : at_worker f k x k ≡ x
  unfolding at_worker
  at_here = ap (λ (b : Bool). cond b x (f k)) (eq-eqb k k refl)

  pub at_else : (i : ℕ) → i ≢ k → at_worker f k x i ≡ f i
  unfolding at_worker
  at_else i n = ap (λ (b : Bool). cond b x (f i)) (ne_eqb i k n)

  pub at_cases : (i : ℕ) → ((i ≡ k) × (at_worker f k x i ≡ x)) ⊎ ((i ≢ k) × (at_worker f k x i ≡ f i))
  at_cases i = elim (one_or i k) [ inl e ↦ inl (e, ap (at_worker f k x) e ∙ at_here) | inr n ↦ inr (n, at_else i n) ]

pub sum_same : (n : ℕ) (f g : ℕ → ℕ) → ((i : ℕ) → i < n → f i ≡ g i) → sum_below n f ≡ sum_below n g
sum_same zero f g h = refl
sum_same (suc n) f g h = let a = h n (omega arith) in let b = sum_same n f g (λ i less. h i (omega arith)) in omega arith

-- sums that differ at one number
pub sum_one : (n : ℕ) (f g : ℕ → ℕ) (k : ℕ) → k < n → ((i : ℕ) → i ≢ k → f i ≡ g i) → sum_below n g + f k ≡ sum_below n f + g k
sum_one zero f g k less h = absurd (omega arith)
sum_one (suc n) f g k less h = elim (one_or n k) [
  | inl e ↦ (let a = sum_same n f g (λ i l. h i (omega arith)) in let b : f n ≡ f k = ap f e in let c : g n ≡ g k = ap g e in omega arith)
  | inr d ↦ (let a = sum_one n f g k (omega arith) h in let b = h n d in omega arith)
]

-- one entry of a function changed, measured beside its number
pub sum_at : {A : Type 0} (n : ℕ) (w : ℕ → A → ℕ) (f : ℕ → A) (k : ℕ) (x : A) → k < n
    → sum_below n (λ i. w i (at_worker f k x i)) + w k (f k) ≡ sum_below n (λ i. w i (f i)) + w k x
sum_at n w f k x less =
    let a = sum_one n (λ i. w i (f i)) (λ i. w i (at_worker f k x i)) k less (λ i ne. ap (w i) (sym (at_else f k x i ne))) in
    let b : w k (at_worker f k x k) ≡ w k x = ap (w k) (at_here f k x) in
    omega (arith, a, b)

pub one_most : (n : ℕ) (f : ℕ → ℕ) (k : ℕ) → k < n → f k ≤ sum_below n f
one_most zero f k less = absurd (omega arith)
one_most (suc n) f k less = elim (one_or n k) [
  | inl e ↦ (let b : f n ≡ f k = ap f e in omega arith)
  | inr d ↦ (let a = one_most n f k (omega arith) in omega arith)
]

pub two_most : (n : ℕ) (f : ℕ → ℕ) (j k : ℕ) → j < n → k < n → j ≢ k → f j + f k ≤ sum_below n f
two_most zero f j k jl kl ne = absurd (omega arith)
two_most (suc n) f j k jl kl ne = elim (one_or n j) [
  | inl e ↦ (elim (one_or n k) [
    | inl g ↦ absurd (ne (sym e ∙ g))
    | inr g ↦ (let a = one_most n f k (omega arith) in let b : f n ≡ f j = ap f e in omega arith)
  ])
  | inr d ↦ (elim (one_or n k) [
    | inl g ↦ (let a = one_most n f j (omega arith) in let b : f n ≡ f k = ap f g in omega arith)
    | inr g ↦ (let a = two_most n f j k (omega arith) (omega arith) ne in omega arith)
  ])
]
