-- Vectors as functions of their columns.
use Rattle.std.proofs.Common.{◌≡◌, ℕ, ◌+◌, ◌*◌, ◌-◌, ◌<◌, ◌≤◌, ◌%◌, ◌^◌, cond, ltb, min, List, [], ◌∷◌, length, map, get_or, replicate, refl, ap, sym, ◌∙◌, arith, w64}
use Rattle.std.specs.List.{range_with_len}
use Rattle.std.proofs.lemmas.Bool.Decides.{nat_tests}
use Rattle.std.proofs.lemmas.List.{ext_get_or}
use Rattle.std.proofs.lemmas.List.FromFn.{length-map-range_with_len, get_or-map-range_with_len}
use Rattle.std.proofs.lemmas.Simd.{length-chunk, get_or-chunk, zip2-map, zip2_splat, zip2_splat_left, map-map, tops_compared}
use Rattle.std.proofs.lemmas.List.{length-map}
use lib.Lanes.{zip2, chunk, sel_l, top}

-- an operation whose right operand was made of another vector, lane by lane
pub zip2_after_map : (f h : ℕ → ℕ → ℕ) (g : ℕ → ℕ) → ((s y : ℕ) → f s (g y) ≡ h s y) → (sums ys : List ℕ) → zip2 f sums (map g ys) ≡ zip2 h sums ys
zip2_after_map f h g same [] ys = refl
zip2_after_map f h g same (s ∷ sums) [] = refl
zip2_after_map f h g same (s ∷ sums) (y ∷ ys) =
    ap (λ z. z ∷ zip2 f sums (map g ys)) (same s y) ∙ ap (λ zs. h s y ∷ zs) (zip2_after_map f h g same sums ys)

lesser : (x y : ℕ) → cond (ltb x y) x y ≡ min x y
lesser x y = grind (arith, nat_tests)

select_lesser : (xs ys : List ℕ) → sel_l (zip2 ltb xs ys) xs ys ≡ zip2 min xs ys
select_lesser [] ys = refl
select_lesser (x ∷ xs) [] = refl
select_lesser (x ∷ xs) (y ∷ ys) = ap (λ z. z ∷ sel_l (zip2 ltb xs ys) xs ys) (lesser x y) ∙ ap (λ zs. min x y ∷ zs) (select_lesser xs ys)

-- what `simd_min` selects
abbrev selected : List ℕ → List ℕ → List ℕ
selected xs ys = sel_l (map (top 63) (zip2 (λ x y. cond (ltb x y) (2 ^ 64 - 1) 0) xs ys)) xs ys

-- it is the lesser in each lane
lesser_lanes : (xs ys : List ℕ) → selected xs ys ≡ zip2 min xs ys
lesser_lanes xs ys = ap (λ ms. sel_l ms xs ys) (tops_compared w64 ltb xs ys) ∙ select_lesser xs ys

-- products with x are added to sums
pub added_products : (x : ℕ) (sums ys : List ℕ) → length ys ≡ 8 → zip2 (λ a b. (a + b) % 2 ^ 64) sums (zip2 (λ a b. (a * b) % 2 ^ 64) (replicate 8 x) ys) ≡ zip2 (λ s y. (s + x * y) % 2 ^ 64) sums ys
added_products x sums ys long =
    ap (zip2 (λ a b. (a + b) % 2 ^ 64) sums) (zip2_splat_left (λ a b. (a * b) % 2 ^ 64) x 8 ys long)
    ∙ zip2_after_map (λ a b. (a + b) % 2 ^ 64) (λ s y. (s + x * y) % 2 ^ 64) (λ y. (x * y) % 2 ^ 64) (λ s y. omega arith) sums ys

-- x and what of y is no more than what x lacks of 2^64-1
saturated : (x y : ℕ) → x < 2 ^ 64 → (x + min y (2 ^ 64 - 1 - x)) % 2 ^ 64 ≡ min (x + y) (2 ^ 64 - 1)
saturated x y fits = omega arith

-- what `saturating_add` selects is the sum, or 2^64-1 where the sum is larger
saturated_lanes : (x : ℕ) (ys : List ℕ) → x < 2 ^ 64 → length ys ≡ 8 → zip2 (λ a b. (a + b) % 2 ^ 64) (replicate 8 x) (zip2 min ys (replicate 8 (2 ^ 64 - 1 - x))) ≡ map (λ y. (x + min y (2 ^ 64 - 1 - x)) % 2 ^ 64) ys
saturated_lanes x ys fits long =
    let bounded = λ (y : ℕ). min y (2 ^ 64 - 1 - x) in
    ap (zip2 (λ a b. (a + b) % 2 ^ 64) (replicate 8 x)) (zip2_splat min ys 8 (2 ^ 64 - 1 - x) long)
    ∙ zip2_splat_left (λ a b. (a + b) % 2 ^ 64) x 8 (map bounded ys) (length-map ys bounded ∙ long)
    ∙ map-map (λ z. (x + z) % 2 ^ 64) bounded ys

-- the least of sums and of saturating sums with x
pub least_sums : (x : ℕ) (sums ys : List ℕ) → x < 2 ^ 64 → length ys ≡ 8 → selected sums (zip2 (λ a b. (a + b) % 2 ^ 64) (replicate 8 x) (selected ys (replicate 8 (2 ^ 64 - 1 - x)))) ≡ zip2 (λ s y. min s (min (x + y) (2 ^ 64 - 1))) sums ys
least_sums x sums ys fits long =
    let added : List ℕ → List ℕ = λ zs. zip2 (λ a b. (a + b) % 2 ^ 64) (replicate 8 x) zs in
    let rest = replicate 8 (2 ^ 64 - 1 - x) in
    lesser_lanes sums (added (selected ys rest))
    ∙ ap (λ zs. zip2 min sums (added zs)) (lesser_lanes ys rest)
    ∙ ap (zip2 min sums) (saturated_lanes x ys fits long)
    ∙ zip2_after_map min (λ s y. min s (min (x + y) (2 ^ 64 - 1))) (λ y. (x + min y (2 ^ 64 - 1 - x)) % 2 ^ 64) (λ s y. ap (min s) (saturated x y fits)) sums ys

get_or-chunk_at : (base c n : ℕ) (xs : List ℕ) (i : ℕ) → i < n → get_or (chunk (base + c) n xs) i 0 ≡ get_or xs (base + (c + i)) 0
get_or-chunk_at base c n xs i lt =
    let place : base + c + i ≡ base + (c + i) = omega arith in
    get_or-chunk (base + c) n xs i 0 lt ∙ ap (λ e. get_or xs e 0) place

-- a load of the n columns from c on
pub chunk_is_map : (base c n : ℕ) (xs : List ℕ) → base + c + n ≤ length xs → chunk (base + c) n xs ≡ map (λ j. get_or xs (base + j) 0) (range_with_len c n)
chunk_is_map base c n xs room =
    let f : ℕ → ℕ = λ j. get_or xs (base + j) 0 in
    let long : length (chunk (base + c) n xs) ≡ n = length-chunk (base + c) n xs room in
    ext_get_or 0 (chunk (base + c) n xs) (map f (range_with_len c n)) (long ∙ sym (length-map-range_with_len f c n))
    (λ i lt. get_or-chunk_at base c n xs i (omega arith) ∙ sym (get_or-map-range_with_len f c n i (c + i) 0 (omega arith) refl))

-- a step in each of n columns from c on
pub zip2_columns : (h : ℕ → ℕ → ℕ) (sum_of : ℕ → ℕ) (sums : List ℕ) (base c n : ℕ) (xs : List ℕ) → base + c + n ≤ length xs → sums ≡ map sum_of (range_with_len c n) → zip2 h sums (chunk (base + c) n xs) ≡ map (λ j. h (sum_of j) (get_or xs (base + j) 0)) (range_with_len c n)
zip2_columns h sum_of sums base c n xs room is =
    ap (λ ss. zip2 h ss (chunk (base + c) n xs)) is
    ∙ ap (λ ys. zip2 h (map sum_of (range_with_len c n)) ys) (chunk_is_map base c n xs room)
    ∙ zip2-map h sum_of (λ j. get_or xs (base + j) 0) (range_with_len c n)
