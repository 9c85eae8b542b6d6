-- What a list holds after a vector or a row was stored in it.
use Rattle.std.proofs.Common.{◌≡◌, ℕ, ◌+◌, ◌-◌, ◌<◌, ◌≤◌, inl, inr, List, length, take, get_or, map, refl, ap, sym, ◌∙◌, arith}
use Rattle.std.specs.List.{range_with_len}
use Rattle.std.proofs.lemmas.Bool.{cases_lt}
use Rattle.std.proofs.lemmas.List.{get_or-take, get_or_append_left, get_or-append_right, length-take-le}
use Rattle.std.proofs.lemmas.List.FromFn.{length-map-range_with_len, get_or-map-range_with_len}
use Rattle.std.proofs.lemmas.Simd.{get_or-put_chunk_below, get_or-put_chunk_at}
use borrow.Rule.Slice.PartMut.{put_mid, post_of}
use lib.Lanes.{put_chunk}

-- a vector of the n elements from a on, behind elements that hold f
pub stored_vector : (f : ℕ → ℕ) (out ys : List ℕ) (a n : ℕ) → length ys ≡ n → ((i : ℕ) → i < n → get_or ys i 0 ≡ f (a + i)) → a + n ≤ length out → ((e : ℕ) → e < a → get_or out e 0 ≡ f e) → (e : ℕ) → e < a + n → get_or (put_chunk a out ys) e 0 ≡ f e
stored_vector f out ys a n long here room before e lt =
    elim (cases_lt e a) [
      | inl below ↦ get_or-put_chunk_below a out ys e 0 below ∙ before e below
      | inr above ↦
          let place : a + (e - a) ≡ e = omega arith in
          ap (λ k. get_or (put_chunk a out ys) k 0) (sym place)
          ∙ get_or-put_chunk_at a out ys (e - a) 0 (omega arith) (omega arith)
          ∙ here (e - a) (omega arith)
          ∙ ap f place
    ]

-- the same of a vector that is known as a list of values of f
pub stored_columns : (f : ℕ → ℕ) (out ys : List ℕ) (a n : ℕ) → ys ≡ map f (range_with_len a n) → a + n ≤ length out → ((e : ℕ) → e < a → get_or out e 0 ≡ f e) → (e : ℕ) → e < a + n → get_or (put_chunk a out ys) e 0 ≡ f e
stored_columns f out ys a n is =
    stored_vector f out ys a n (ap length is ∙ length-map-range_with_len f a n)
    (λ i within. ap (λ l. get_or l i 0) is ∙ get_or-map-range_with_len f a n i (a + i) 0 within refl)

-- a row of q elements from a on, behind elements that hold f
pub stored_row : (f : ℕ → ℕ) (out row : List ℕ) (a k q : ℕ) → k ≡ q → a + q ≤ length out → length row ≡ q → ((e : ℕ) → e < a → get_or out e 0 ≡ f e) → ((j : ℕ) → j < q → get_or row j 0 ≡ f (a + j)) → (e : ℕ) → e < a + q → get_or (put_mid a k out row) e 0 ≡ f e
stored_row f out row a k q is room long before here e lt =
    let front : length (take a out) ≡ a = length-take-le a out (omega arith) in
    elim (cases_lt e a) [
      | inl below ↦ get_or_append_left (take a out) _ 0 e (omega arith) ∙ get_or-take a out e 0 below ∙ before e below
      | inr above ↦
          let place : a + (e - a) ≡ e = omega arith in
          get_or-append_right (take a out) _ a e 0 front above
          ∙ get_or_append_left row (post_of a k out) 0 (e - a) (omega arith)
          ∙ here (e - a) (omega arith)
          ∙ ap f place
    ]
