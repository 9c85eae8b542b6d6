-- A row whose first elements were written over by their running sums.
use Rattle.std.proofs.Common.{◌≡◌, ℕ, ◌+◌, ◌%◌, ◌^◌, ◌<◌, ◌≤◌, List, get_or, sum, take}

-- the start with the elements up to element e
abbrev pub sum_through : ℕ → List ℕ → ℕ → ℕ
sum_through start row e = (start + sum (take (e + 1) row)) % 2 ^ 64

pub record IsScanned (start total at : ℕ) (old new : List ℕ) : Type 0 where
  -- the sum so far
  pub summed : total ≡ (start + sum (take at old)) % 2 ^ 64
  pub written : (e : ℕ) → e < at → get_or new e 0 ≡ sum_through start old e
  pub kept : (e : ℕ) → at ≤ e → get_or new e 0 ≡ get_or old e 0
