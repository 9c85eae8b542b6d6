-- How two paths lie to each other.
use Rattle.std.specs.Prelude.{◌≡◌, ℕ, List, [], ◌∷◌}

-- the second path begins with the first
abbrev pub IsPrefix : List ℕ → List ℕ → Type 0
IsPrefix [] q = Unit {0}
IsPrefix (k ∷ p) [] = ⊥
IsPrefix (k ∷ p) (j ∷ q) = (k ≡ j) × IsPrefix p q

-- neither path begins with the other
abbrev pub AreSeparate : List ℕ → List ℕ → Type 0
AreSeparate p q = (IsPrefix p q → ⊥) × (IsPrefix q p → ⊥)
