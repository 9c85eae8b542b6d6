-- A row of a product, from the elements of the whole tiles.
use Rattle.std.proofs.Common.{◌≡◌, ℕ, ◌+◌, ◌*◌, ◌-◌, ◌/◌, ◌%◌, ◌<◌, ◌≤◌, List, length, take, drop, get_or, map, ap, sym, ◌∙◌, arith}
use Rattle.std.specs.List.{range_with_len}
use Rattle.std.proofs.lemmas.List.{get_or-take, get_or-drop, length-take-le, length-drop}
use Rattle.std.proofs.lemmas.List.FromFn.{get_or-map-range_with_len}
use Rattle.std.proofs.lemmas.Nat.{div-mul-add, mod-mul-add}
use Rattle.kt_law.specs.PlainKernels.{folded}
use Rattle.kt_kernels.specs.Products.{element_of}
use Rattle.kt_kernels.proofs.Sums.{folded_same}

-- element e of the product of a tile of p columns with one of q columns
abbrev pub cell : (ℕ → ℕ → ℕ) → (ℕ → ℕ → ℕ) → ℕ → List ℕ → List ℕ → ℕ → ℕ → ℕ → ℕ
cell plus times first a b p q e = folded plus first (λ k. times (get_or a (e / q * p + k) 0) (get_or b (k * q + e % q) 0)) p

-- row i of a tile of p columns
abbrev pub row_at : ℕ → ℕ → List ℕ → List ℕ
row_at i p a = take (i * p + p - i * p) (drop (i * p) a)

pub length-row_at : (i p : ℕ) (a : List ℕ) → i * p + p ≤ length a → length (row_at i p a) ≡ p
length-row_at i p a room =
    let size : i * p + p - i * p ≡ p = omega arith in
    ap (λ m. length (take m (drop (i * p) a))) size
    ∙ length-take-le p (drop (i * p) a) (omega (arith, length-drop (i * p) a))

get_or-row_at : (i p : ℕ) (a : List ℕ) (k : ℕ) → k < p → get_or (row_at i p a) k 0 ≡ get_or a (i * p + k) 0
get_or-row_at i p a k lt = get_or-take (i * p + p - i * p) (drop (i * p) a) k 0 (omega arith) ∙ get_or-drop (i * p) a k 0

-- term k of element i * q + j, from row i and from the whole tile
row_term : (times : ℕ → ℕ → ℕ) (a b : List ℕ) (p q i j w : ℕ) → w ≡ q → j < q → (k : ℕ) → k < p → times (get_or (row_at i p a) k 0) (get_or b (k * w + j) 0) ≡ times (get_or a ((i * q + j) / q * p + k) 0) (get_or b (k * q + (i * q + j) % q) 0)
row_term times a b p q i j w wide lt k below =
    ap (λ x. times x (get_or b (k * w + j) 0)) (get_or-row_at i p a k below)
    ∙ ap (λ r. times (get_or a (r * p + k) 0) (get_or b (k * w + j) 0)) (sym (div-mul-add i q j lt))
    ∙ ap (λ v. times (get_or a ((i * q + j) / q * p + k) 0) (get_or b (k * v + j) 0)) wide
    ∙ ap (λ r. times (get_or a ((i * q + j) / q * p + k) 0) (get_or b (k * q + r) 0)) (sym (mod-mul-add i q j lt))

-- what row i makes with column j is element i * q + j
pub row_cells : (plus times : ℕ → ℕ → ℕ) (first : ℕ) (a b : List ℕ) (p q i w : ℕ) (new : List ℕ) → w ≡ q → i * p + p ≤ length a → new ≡ map (element_of plus times first (row_at i p a) b w) (range_with_len 0 w) → (j : ℕ) → j < q → get_or new j 0 ≡ cell plus times first a b p q (i * q + j)
row_cells plus times first a b p q i w new wide room is j lt =
    let row = row_at i p a in
    let e = i * q + j in
    let term : ℕ → ℕ = λ k. times (get_or row k 0) (get_or b (k * w + j) 0) in
    let whole_term : ℕ → ℕ = λ k. times (get_or a (e / q * p + k) 0) (get_or b (k * q + e % q) 0) in
    ap (λ l. get_or l j 0) is
    ∙ get_or-map-range_with_len (element_of plus times first row b w) 0 w j j 0 (omega arith) (omega arith)
    ∙ ap (folded plus first term) (length-row_at i p a room)
    ∙ folded_same plus first term whole_term p (row_term times a b p q i j w wide lt)
