-- How an interval of positions is split: the victim keeps its first positions, and thieves get the rest in pieces.
use Rattle.std.specs.Prelude.{◌≡◌, ℕ, ◌+◌, ◌*◌, ◌-◌, ◌<◌, ◌≤◌, min, List, [], ◌∷◌, length, AllPairs}
use Rattle.kt_words.specs.declared.pairs.Pair.{Pair}
use Rattle.kt_split.specs.declared.splits.Division.{Division}
use Rattle.kt_split.specs.declared.splits.Division.TheVariants as D
use Rattle.kt_split.specs.Intervals.{size}

-- of n positions the victim keeps the least number that, taken once for each part and once for the victim, is at least n
pub record IsKept (n parts kept : ℕ) : Type 0 where
  pub enough : n ≤ kept * (parts + 1)
  pub least : (c : ℕ) → n ≤ c * (parts + 1) → kept ≤ c

-- the pieces lie side by side in rising order, from one position up to another, and none is empty
abbrev pub Fill : ℕ → List Pair → ℕ → Type 0
Fill from [] to = from ≡ to
Fill from (x ∷ pieces) to = (x.low ≡ from) × (x.low < x.high) × Fill x.high pieces to

-- no later one is longer, and none is shorter by more than one
abbrev pub AreEven : List Pair → Type 0
AreEven pieces = AllPairs (λ x y. (size y ≤ size x) × (size x ≤ size y + 1)) pieces

-- what is left to the victim, and the pieces: as many as there are parts, or one for each position where there are fewer of these
pub record IsCut (x : Pair) (parts : ℕ) (left : Pair) (pieces : List Pair) : Type 0 where
  pub first : left.low ≡ x.low
  pub kept : IsKept (size x) parts (size left)
  pub many : length pieces ≡ min parts (size x - size left)
  pub fill : Fill left.high pieces x.high
  pub even : AreEven pieces

-- an interval of fewer than two positions stays whole
abbrev pub IsDivision : Pair → ℕ → Division → Type 0
IsDivision x parts (D.Short n) = (n ≡ size x) × (n < 2)
IsDivision x parts (D.Cut c) = (2 ≤ size x) × IsCut x parts c.left c.pieces.items
