-- Intervals of positions.
use Rattle.std.specs.Prelude.{ℕ, ◌-◌, ◌&&◌, Bool, List, nat_lt, nat_le, count_by}
use Rattle.kt_words.specs.declared.pairs.Pair.{Pair}

-- how many positions an interval has: those from the lower number up to the higher, the higher not included
abbrev pub size : Pair → ℕ
size x = x.high - x.low

abbrev pub has : ℕ → Pair → Bool
has position x = nat_le x.low position && nat_lt position x.high

-- in how many intervals a position is
abbrev pub times : ℕ → List Pair → ℕ
times position xs = count_by (has position) xs
