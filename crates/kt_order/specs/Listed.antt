-- The paths that are there, in the order of the sequential run.
use Rattle.std.specs.Prelude.{ℕ, zero, suc, ◌+◌, List, [], ◌∷◌, ◌++◌, map}
use Rattle.kt_order.specs.Paths.{shift}

abbrev pub each_from : ((List ℕ → ℕ) → List (List ℕ)) → (List ℕ → ℕ) → ℕ → ℕ → List (List ℕ)
each_from sub count k zero = []
each_from sub count k (suc n) = (k ∷ []) ∷ (map (λ p. k ∷ p) (sub (shift k count)) ++ each_from sub count (suc k) n)

-- the paths below the root
abbrev pub listed : ℕ → (List ℕ → ℕ) → List (List ℕ)
listed zero count = []
listed (suc depth) count = each_from (listed depth) count 0 (count [])

abbrev pub all_paths : ℕ → (List ℕ → ℕ) → List (List ℕ)
all_paths depth count = [] ∷ listed depth count

abbrev pub sum_over : (List ℕ → ℕ) → List (List ℕ) → ℕ
sum_over f [] = 0
sum_over f (p ∷ ps) = f p + sum_over f ps
