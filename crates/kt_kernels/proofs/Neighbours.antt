-- A row's elements with their neighbours, one by one and in vectors.
use Rattle.std.proofs.Common.{◌≡◌, ℕ, zero, suc, ◌+◌, ◌*◌, ◌%◌, ◌^◌, ◌<◌, ◌≤◌, inl, inr, List, [], ◌∷◌, ◌++◌, length, get_or, ap, ◌∙◌, arith}
use Rattle.std.proofs.lemmas.Bool.{cases_lt}
use Rattle.std.proofs.lemmas.List.{get_or_append_left, get_or_default, get_or_push}
use Rattle.std.proofs.lemmas.Simd.{length-chunk, get_or-chunk}
use Rattle.kt_law.specs.PlainKernels.{element_before, element_behind}
use lib.Lanes.{chunk}

-- element i twice with its two neighbours
abbrev pub weighted_at : ℕ → List ℕ → ℕ → ℕ → ℕ
weighted_at left row right i = (element_before left row i + 2 * get_or row i 0 + element_behind row right i) % 2 ^ 64

-- what a loop over vectors keeps that has come to element `at`
pub record AreWeighted (left : ℕ) (row : List ℕ) (right at : ℕ) (previous out : List ℕ) : Type 0 where
  pub before : get_or previous 7 0 ≡ element_before left row at
  pub written : (e : ℕ) → e < at → get_or out e 0 ≡ weighted_at left row right e

before_lane : (left : ℕ) (row : List ℕ) (at b : ℕ) → b ≡ element_before left row at → (j : ℕ) → j < 8 → get_or (b ∷ chunk at 8 row) j 0 ≡ element_before left row (at + j)
before_lane left row at b is zero lt =
    let place : at ≡ at + zero = omega arith in
    is ∙ ap (element_before left row) place
before_lane left row at b is (suc i) lt =
    let place : suc (at + i) ≡ at + suc i = omega arith in
    get_or-chunk at 8 row i 0 (omega arith) ∙ ap (element_before left row) place

behind_lane : (row : List ℕ) (right at b : ℕ) → at + 8 ≤ length row → b ≡ element_behind row right (at + 7) → (j : ℕ) → j < 8 → get_or (chunk at 8 row ++ b ∷ []) (j + 1) 0 ≡ element_behind row right (at + j)
behind_lane row right at b room is j lt =
    let here = chunk at 8 row in
    let long : length here ≡ 8 = length-chunk at 8 row room in
    elim (cases_lt (j + 1) 8) [
      | inl within ↦
          let place : at + (j + 1) ≡ at + j + 1 = omega arith in
          get_or_append_left here (b ∷ []) 0 (j + 1) (omega arith) ∙ get_or-chunk at 8 row (j + 1) 0 within
          ∙ ap (λ k. get_or row k 0) place ∙ get_or_default row (at + j + 1) 0 right (omega arith)
      | inr last ↦
          let end : length here ≡ j + 1 = omega arith in
          let place : at + 7 ≡ at + j = omega arith in
          get_or_push here b 0 (j + 1) end ∙ is ∙ ap (element_behind row right) place
    ]

-- lane j of a vector of the elements from `at` on, behind which the row goes on
pub weighted_lane : (left : ℕ) (row : List ℕ) (right at before : ℕ) → at + 8 < length row → before ≡ element_before left row at → (j : ℕ) → j < 8 → (get_or (before ∷ chunk at 8 row) j 0 + 2 * get_or (chunk at 8 row) j 0 + get_or (chunk at 8 row ++ get_or row (at + 8) 0 ∷ []) (j + 1) 0) % 2 ^ 64 ≡ weighted_at left row right (at + j)
weighted_lane left row right at before room before_is j lt =
    let here = chunk at 8 row in
    let a = get_or (before ∷ here) j 0 in
    let x = get_or here j 0 in
    let next : at + 8 ≡ at + 7 + 1 = omega arith in
    let behind_is = get_or_default row (at + 8) 0 right room ∙ ap (λ k. get_or row k right) next in
    ap (λ z. (a + 2 * x + z) % 2 ^ 64) (behind_lane row right at (get_or row (at + 8) 0) (omega arith) behind_is j lt)
    ∙ ap (λ y. (a + 2 * y + element_behind row right (at + j)) % 2 ^ 64) (get_or-chunk at 8 row j 0 lt)
    ∙ ap (λ y. (y + 2 * get_or row (at + j) 0 + element_behind row right (at + j)) % 2 ^ 64) (before_lane left row at before before_is j lt)

-- the last lane of that vector stands before the next one
pub last_lane : (left : ℕ) (line : List ℕ) (at next : ℕ) → next ≡ at + 8 → get_or (chunk at 8 line) 7 0 ≡ element_before left line next
last_lane left line at next is =
    let place : suc (at + 7) ≡ next = omega arith in
    get_or-chunk at 8 line 7 0 (omega arith) ∙ ap (element_before left line) place
