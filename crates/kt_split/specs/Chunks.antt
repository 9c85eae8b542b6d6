-- The chunk that is taken from the front of an interval.
use Rattle.std.specs.Prelude.{◌≡◌, ℕ, ◌+◌, min}
use Rattle.kt_words.specs.declared.pairs.Pair.{Pair}
use Rattle.kt_split.specs.declared.chunks.Chunk.{Chunk}
use Rattle.kt_split.specs.Intervals.{size}

-- the first so many positions, or all where there are fewer, and those behind them
pub record IsChunk (x : Pair) (grain : ℕ) (c : Chunk) : Type 0 where
  pub first : c.taken.low ≡ x.low
  pub taken : c.taken.high ≡ x.low + min grain (size x)
  pub next : c.left.low ≡ c.taken.high
  pub last : c.left.high ≡ x.high
