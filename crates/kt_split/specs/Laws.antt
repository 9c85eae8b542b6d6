-- Statements of the laws of splits and chunks.
use Rattle.std.specs.Prelude.{◌≡◌, ℕ, suc, ◌≤◌, min, List, [], ◌∷◌, length}
use Rattle.kt_words.specs.declared.pairs.Pair.{Pair}
use Rattle.kt_split.specs.declared.chunks.Chunk.{Chunk}
use Rattle.kt_split.specs.Intervals.{size, times}
use Rattle.kt_split.specs.Splits.{AreEven, IsCut}
use Rattle.kt_split.specs.Chunks.{IsChunk}

-- an interval that has two positions is cut in one way
abbrev pub OneCut : Type 0
OneCut = (x : Pair) (parts : ℕ) (left other : Pair) (pieces others : List Pair) → 2 ≤ size x → 1 ≤ parts
    → IsCut x parts left pieces → IsCut x parts other others → (left ≡ other) × (pieces ≡ others)

-- each position of an interval that is cut is in one of the shares, the victim's or a piece, and no other is in any
abbrev pub CutsKeepPositions : Type 0
CutsKeepPositions = (x : Pair) (parts : ℕ) (left : Pair) (pieces : List Pair) → 2 ≤ size x → 1 ≤ parts
    → IsCut x parts left pieces → (position : ℕ) → times position (left ∷ pieces) ≡ times position (x ∷ [])

-- The shares, the victim's first, are as even as the pieces are, and there is one for each part and one for the victim, or one for each
-- position where there are fewer of these. So the victim keeps a position, and there is a piece.
pub record SharesAreEven (x : Pair) (parts : ℕ) (left : Pair) (pieces : List Pair) : Type 0 where
  pub even : AreEven (left ∷ pieces)
  pub many : length (left ∷ pieces) ≡ min (suc parts) (size x)
  pub keeps : 1 ≤ size left
  pub gives : 1 ≤ length pieces

abbrev pub CutsAreEven : Type 0
CutsAreEven = (x : Pair) (parts : ℕ) (left : Pair) (pieces : List Pair) → 2 ≤ size x → 1 ≤ parts
    → IsCut x parts left pieces → SharesAreEven x parts left pieces

-- each position of an interval is in its chunk or behind it, and not in both
abbrev pub ChunksKeepPositions : Type 0
ChunksKeepPositions = (x : Pair) (grain : ℕ) (c : Chunk) → IsChunk x grain c
    → (position : ℕ) → times position (c.taken ∷ c.left ∷ []) ≡ times position (x ∷ [])
