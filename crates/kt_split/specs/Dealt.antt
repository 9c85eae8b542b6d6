-- Pieces as they are made, one after another.
use Rattle.std.specs.Prelude.{ℕ, zero, suc, ◌+◌, List, [], ◌∷◌}
use Rattle.kt_words.specs.declared.pairs.Pair.{Pair}

-- so many pieces from this position on: the first so many have one position more than the others
abbrev pub dealt : ℕ → ℕ → ℕ → ℕ → List Pair
dealt from each zero longer = []
dealt from each (suc n) zero = record { low = from; high = from + each } ∷ dealt (from + each) each n 0
dealt from each (suc n) (suc k) = record { low = from; high = from + each + 1 } ∷ dealt (from + each + 1) each n k
