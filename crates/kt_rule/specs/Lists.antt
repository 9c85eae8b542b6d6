-- Sums over lists, how often a path stands in one, and what a list contains.
use Rattle.std.specs.Prelude.{ℕ, ◌+◌, Bool, true, false, List, [], ◌∷◌}
use Rattle.kt_order.specs.Paths.{same_path}
use Rattle.kt_runs.specs.ByPath.{Path}

-- f of each, added up
abbrev pub weigh : {A : Type 0} → (A → ℕ) → List A → ℕ
weigh f [] = 0
weigh f (x ∷ xs) = f x + weigh f xs

abbrev pub one_if : Bool → ℕ
one_if true = 1
one_if false = 0

-- how often the path stands in the list
abbrev pub times : Path → List Path → ℕ
times p ps = weigh (λ q. one_if (same_path p q)) ps

pub data In {A : Type 0} (x : A) : List A → Type 0 where
  here : {xs : List A} → In x (x ∷ xs)
  there : {y : A} {xs : List A} → In x xs → In x (y ∷ xs)
