-- What has been put together so far, and when two such values are the same.
use Rattle.std.proofs.Common.{◌≡◌, ℕ, zero, suc, ◌+◌, ◌*◌, ◌<◌, ◌≤◌, List, length, get_or, map, refl, ap, ◌∙◌, arith}
use Rattle.std.specs.List.{range_with_len}
use lib.Lanes.{zip2, chunk}
use Rattle.kt_law.specs.PlainKernels.{folded}
use Rattle.kt_kernels.specs.Products.{element_of}
use Rattle.kt_kernels.proofs.Vectors.{zip2_columns}

-- what a row has made with column j after its first k elements
abbrev pub sum_to : (ℕ → ℕ → ℕ) → (ℕ → ℕ → ℕ) → ℕ → List ℕ → List ℕ → ℕ → ℕ → ℕ → ℕ
sum_to plus times first row b width k j = folded plus first (λ i. times (get_or row i 0) (get_or b (i * width + j) 0)) k

-- one element more, in the n columns from `column` on
pub sums_more : (plus times : ℕ → ℕ → ℕ) (first : ℕ) (row b : List ℕ) (width column n k : ℕ) (sums : List ℕ) → k * width + column + n ≤ length b → sums ≡ map (sum_to plus times first row b width k) (range_with_len column n) → zip2 (λ s y. plus s (times (get_or row k 0) y)) sums (chunk (k * width + column) n b) ≡ map (sum_to plus times first row b width (k + 1)) (range_with_len column n)
sums_more plus times first row b width column n k sums room is =
    let next : suc k ≡ k + 1 = omega arith in
    zip2_columns (λ s y. plus s (times (get_or row k 0) y)) (sum_to plus times first row b width k) sums (k * width) column n b room is
    ∙ ap (λ m. map (sum_to plus times first row b width m) (range_with_len column n)) next

-- after all elements
pub sums_all : (plus times : ℕ → ℕ → ℕ) (first : ℕ) (row b : List ℕ) (width k : ℕ) (columns sums : List ℕ) → k ≡ length row → sums ≡ map (sum_to plus times first row b width k) columns → sums ≡ map (element_of plus times first row b width) columns
sums_all plus times first row b width k columns sums all is = is ∙ ap (λ m. map (sum_to plus times first row b width m) columns) all

pub folded_same : (plus : ℕ → ℕ → ℕ) (first : ℕ) (f g : ℕ → ℕ) (p : ℕ) → ((k : ℕ) → k < p → f k ≡ g k) → folded plus first f p ≡ folded plus first g p
folded_same plus first f g zero same = refl
folded_same plus first f g (suc p) same =
    ap (λ s. plus s (f p)) (folded_same plus first f g p (λ k lt. same k (omega arith)))
    ∙ ap (λ y. plus (folded plus first g p) y) (same p (omega arith))
