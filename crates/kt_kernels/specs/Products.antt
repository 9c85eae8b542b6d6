-- The product of two tiles over any sum and product of numbers.
use Rattle.std.specs.Prelude.{ℕ, ◌+◌, ◌*◌, List, length, slice_index}
use Rattle.kt_law.specs.PlainKernels.{folded, tile}

-- what a row makes with column j of the tile b, which has `width` columns
abbrev pub element_of : (ℕ → ℕ → ℕ) → (ℕ → ℕ → ℕ) → ℕ → List ℕ → List ℕ → ℕ → ℕ → ℕ
element_of plus times first row b width j = folded plus first (λ k. times (slice_index row k) (slice_index b (k * width + j))) (length row)

-- the product of the n by p tile a with the p by q tile b
abbrev pub product_of : (ℕ → ℕ → ℕ) → (ℕ → ℕ → ℕ) → ℕ → ℕ → ℕ → ℕ → List ℕ → List ℕ → List ℕ
product_of plus times first n p q a b = tile (λ i j. folded plus first (λ k. times (slice_index a (i * p + k)) (slice_index b (k * q + j))) p) n q
