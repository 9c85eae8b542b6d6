-- Eight elements of a row as a vector, and the vectors one place before and one place behind them.
use Rattle.std.proofs.Common.{◌≡◌, ℕ, zero, suc, ◌+◌, ◌*◌, ◌-◌, ◌%◌, ◌^◌, ◌<◌, inl, inr, List, [], ◌∷◌, ◌++◌, length, get_or, replicate, refl, ap, sym, ◌∙◌, arith}
use Rattle.std.specs.List.{range_with_len}
use Rattle.std.proofs.lemmas.Bool.{cases_lt}
use Rattle.std.proofs.lemmas.List.{get_or_append_left, get_or-append_right, get_or_push, length-append}
use Rattle.std.proofs.lemmas.Simd.{get_or-chunk, get_or-zip2, length-zip2, pick_l-range_with_len}
use lib.Lanes.{pick_l, zip2}

abbrev sums : List ℕ → List ℕ → List ℕ
sums xs ys = zip2 (λ a b. (a + b) % 2 ^ 64) xs ys

-- the vector one place before, where `previous` stands before it
abbrev pub befores : List ℕ → List ℕ → List ℕ
befores previous here = pick_l 0 (previous ++ here) (range_with_len 7 8)

-- the vector one place behind, where b stands behind it
abbrev pub behinds : List ℕ → ℕ → List ℕ
behinds here b = pick_l 0 (here ++ replicate 8 b) (range_with_len 1 8)

-- eight elements twice, with their neighbours
abbrev pub all_weighted : List ℕ → List ℕ → ℕ → List ℕ
all_weighted previous here b = sums (sums (befores previous here) (sums here here)) (behinds here b)

pub length-all_weighted : (previous here : List ℕ) (b : ℕ) → length here ≡ 8 → length (all_weighted previous here b) ≡ 8
length-all_weighted previous here b long =
    let add : ℕ → ℕ → ℕ = λ x y. (x + y) % 2 ^ 64 in
    let twice : length (sums here here) ≡ 8 = length-zip2 add here here refl ∙ long in
    let two : length (sums (befores previous here) (sums here here)) ≡ 8 = length-zip2 add (befores previous here) (sums here here) (sym twice) in
    length-zip2 add (sums (befores previous here) (sums here here)) (behinds here b) two ∙ two

before_in : (previous here : List ℕ) → length previous ≡ 8 → length here ≡ 8 → (j : ℕ) → j < 8 → get_or (previous ++ here) (7 + j) 0 ≡ get_or (get_or previous 7 0 ∷ here) j 0
before_in previous here p_long h_long zero lt = get_or_append_left previous here 0 7 (omega arith)
before_in previous here p_long h_long (suc i) lt =
    let place : 7 + suc i - 8 ≡ i = omega arith in
    get_or-append_right previous here 8 (7 + suc i) 0 p_long (omega arith) ∙ ap (λ k. get_or here k 0) place

get_or-befores : (previous here : List ℕ) → length previous ≡ 8 → length here ≡ 8 → (j : ℕ) → j < 8 → get_or (befores previous here) j 0 ≡ get_or (get_or previous 7 0 ∷ here) j 0
get_or-befores previous here p_long h_long j lt =
    ap (λ l. get_or l j 0) (pick_l-range_with_len 0 (previous ++ here) 7 8 (omega (arith, length-append previous here)))
    ∙ get_or-chunk 7 8 (previous ++ here) j 0 lt
    ∙ before_in previous here p_long h_long j lt

get_or-behinds : (here : List ℕ) (b : ℕ) → length here ≡ 8 → (j : ℕ) → j < 8 → get_or (behinds here b) j 0 ≡ get_or (here ++ b ∷ []) (j + 1) 0
get_or-behinds here b long j lt =
    let shifted : get_or (behinds here b) j 0 ≡ get_or (here ++ replicate 8 b) (1 + j) 0 =
    ap (λ l. get_or l j 0) (pick_l-range_with_len 0 (here ++ replicate 8 b) 1 8 (omega (arith, length-append here (replicate 8 b))))
    ∙ get_or-chunk 1 8 (here ++ replicate 8 b) j 0 lt in
    let place : 1 + j ≡ j + 1 = omega arith in
    elim (cases_lt (1 + j) 8) [
      | inl within ↦
          shifted ∙ get_or_append_left here (replicate 8 b) 0 (1 + j) (omega arith) ∙ ap (λ k. get_or here k 0) place
          ∙ sym (get_or_append_left here (b ∷ []) 0 (j + 1) (omega arith))
      | inr last ↦
          let end : length here ≡ j + 1 = omega arith in
          let first : 1 + j - 8 ≡ 0 = omega arith in
          shifted ∙ get_or-append_right here (replicate 8 b) 8 (1 + j) 0 long last ∙ ap (λ k. get_or (replicate 8 b) k 0) first
          ∙ sym (get_or_push here b 0 (j + 1) end)
    ]

added : (a x z : ℕ) → ((a + (x + x) % 2 ^ 64) % 2 ^ 64 + z) % 2 ^ 64 ≡ (a + 2 * x + z) % 2 ^ 64
added a x z = omega arith

get_or-sums : (xs ys : List ℕ) (j : ℕ) → j < length xs → j < length ys → get_or (sums xs ys) j 0 ≡ (get_or xs j 0 + get_or ys j 0) % 2 ^ 64
get_or-sums xs ys j x_lt y_lt = get_or-zip2 (λ x y. (x + y) % 2 ^ 64) xs ys j 0 0 0 x_lt y_lt

pub get_or-all_weighted : (previous here : List ℕ) (b : ℕ) → length previous ≡ 8 → length here ≡ 8 → (j : ℕ) → j < 8 → get_or (all_weighted previous here b) j 0 ≡ (get_or (get_or previous 7 0 ∷ here) j 0 + 2 * get_or here j 0 + get_or (here ++ b ∷ []) (j + 1) 0) % 2 ^ 64
get_or-all_weighted previous here b p_long h_long j lt =
    let before = get_or (get_or previous 7 0 ∷ here) j 0 in
    let x = get_or here j 0 in
    let behind = get_or (here ++ b ∷ []) (j + 1) 0 in
    let twice = sums here here in
    let two = sums (befores previous here) twice in
    let twice_long : length twice ≡ 8 = length-zip2 (λ x y. (x + y) % 2 ^ 64) here here refl ∙ h_long in
    let two_long : length two ≡ 8 = length-zip2 (λ x y. (x + y) % 2 ^ 64) (befores previous here) twice (sym twice_long) in
    get_or-sums two (behinds here b) j (omega arith) lt
    ∙ ap (λ s. (s + get_or (behinds here b) j 0) % 2 ^ 64) (get_or-sums (befores previous here) twice j lt (omega arith))
    ∙ ap (λ t. ((get_or (befores previous here) j 0 + t) % 2 ^ 64 + get_or (behinds here b) j 0) % 2 ^ 64) (get_or-sums here here j (omega arith) (omega arith))
    ∙ ap (λ a. ((a + (x + x) % 2 ^ 64) % 2 ^ 64 + get_or (behinds here b) j 0) % 2 ^ 64) (get_or-befores previous here p_long h_long j lt)
    ∙ ap (λ z. ((before + (x + x) % 2 ^ 64) % 2 ^ 64 + z) % 2 ^ 64) (get_or-behinds here b h_long j lt)
    ∙ added before x behind
