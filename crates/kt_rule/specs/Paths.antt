-- Paths of tasks, and one entry of a function of paths, changed.
use Rattle.std.specs.Prelude.{ℕ, cond, [], ◌∷◌}
use Rattle.kt_order.specs.Paths.{same_path}
use Rattle.kt_runs.specs.ByPath.{Path}

-- a path without its last number, and that number
abbrev pub parent_of : Path → Path
parent_of [] = []
parent_of (k ∷ []) = []
parent_of (k ∷ (i ∷ p)) = k ∷ parent_of (i ∷ p)

abbrev pub number_of : Path → ℕ
number_of [] = 0
number_of (k ∷ []) = k
number_of (k ∷ (i ∷ p)) = number_of (i ∷ p)

unfoldable pub put : {A : Type 0} → (Path → A) → Path → A → Path → A
put f p x q = cond (same_path q p) x (f q)
