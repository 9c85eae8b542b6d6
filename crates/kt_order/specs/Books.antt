-- The book of a loop: which of its indexes are not taken yet, and how many are not retired.
use Rattle.std.specs.Prelude.{◌≡◌, ◌≢◌, ℕ, zero, suc, ◌+◌, ◌-◌, ◌≤◌, ◌<◌, min, Bool, cond, nat_eq, nat_lt, ◌&&◌, List, [], ◌∷◌, length, ◌⊎◌}
use Rattle.kt_order.specs.Forest.{Phase, Unclaimed, Running, Ended, Finished}

-- the indexes from `from` up to `to`, `to` not included
pub record Piece : Type 0 where
  pub from : ℕ
  pub to : ℕ

pub record Book : Type 0 where
  pub pieces : List Piece
  pub unretired : ℕ

-- 1 below the end, else 0
abbrev pub below : ℕ → ℕ → ℕ
below end i = min 1 (end - i)

-- 1 where the index is in the piece, else 0
abbrev pub holds : Piece → ℕ → ℕ
holds p i = below p.to i - below p.from i

-- how many of the pieces hold the index
abbrev pub holding : List Piece → ℕ → ℕ
holding [] i = 0
holding (p ∷ pieces) i = holds p i + holding pieces i

abbrev pub NoneEmpty : List Piece → Type 0
NoneEmpty [] = Unit {0}
NoneEmpty (p ∷ pieces) = (p.from < p.to) × NoneEmpty pieces

abbrev pub is_untaken : Phase → ℕ
is_untaken Unclaimed = 1
is_untaken Running = 0
is_untaken Ended = 0
is_untaken Finished = 0

-- 1 where the index is there and is not taken, else 0
abbrev pub untaken : List Phase → ℕ → ℕ
untaken [] i = 0
untaken (ph ∷ phases) zero = is_untaken ph
untaken (ph ∷ phases) (suc i) = untaken phases i

abbrev pub is_done : Phase → ℕ
is_done Unclaimed = 0
is_done Running = 0
is_done Ended = 0
is_done Finished = 1

-- how many indexes have ended
abbrev pub done_in : List Phase → ℕ
done_in [] = 0
done_in (ph ∷ phases) = is_done ph + done_in phases

-- an index that has ended is finished at once, since it forks nothing
abbrev pub NoneEnded : List Phase → Type 0
NoneEnded [] = Unit {0}
NoneEnded (ph ∷ phases) = (ph ≢ Ended) × NoneEnded phases

-- the book of a loop whose indexes are in these phases
pub record BookOk (b : Book) (phases : List Phase) : Type 0 where
  pub pieces : NoneEmpty b.pieces
  -- just one piece holds an index that is not taken, and none holds another
  pub covers : (i : ℕ) → holding b.pieces i ≡ untaken phases i
  pub none_ended : NoneEnded phases
  -- no more are retired than have ended
  pub retired : length phases ≤ b.unretired + done_in phases

-- one piece of so many indexes, or none
abbrev pub one_piece : ℕ → List Piece
one_piece zero = []
one_piece (suc n) = record { from = 0; to = suc n } ∷ []

abbrev pub whole_book : ℕ → Book
whole_book n = record { pieces = one_piece n; unretired = n }

abbrev pub is_inside : ℕ → Piece → Bool
is_inside at p = nat_lt p.from at && nat_lt at p.to

-- the first piece that has the index strictly inside is cut in two before it
abbrev pub cut : ℕ → List Piece → List Piece
cut at [] = []
cut at (p ∷ pieces) = cond (is_inside at p) (record { from = p.from; to = at } ∷ (record { from = at; to = p.to } ∷ pieces)) (p ∷ cut at pieces)

-- what is left of a piece: nothing where it is empty
abbrev pub left_of_piece : ℕ → ℕ → List Piece → List Piece
left_of_piece from to pieces = cond (nat_lt from to) (record { from = from; to = to } ∷ pieces) pieces

-- a piece begins at the index and has at least so many indexes
abbrev pub CanTake : ℕ → ℕ → List Piece → Type 0
CanTake at n [] = ⊥
CanTake at n (p ∷ pieces) = (p.from ≡ at) × (at + n ≤ p.to) ⊎ (p.from ≢ at) × CanTake at n pieces

-- the first n indexes of the first piece that begins at the index are taken
abbrev pub take : ℕ → ℕ → List Piece → List Piece
take at n [] = []
take at n (p ∷ pieces) = cond (nat_eq p.from at) (left_of_piece (at + n) p.to pieces) (p ∷ take at n pieces)

-- the phase of one index
abbrev pub set_phase : ℕ → Phase → List Phase → List Phase
set_phase i ph [] = []
set_phase zero ph (x ∷ phases) = ph ∷ phases
set_phase (suc i) ph (x ∷ phases) = x ∷ set_phase i ph phases

-- n indexes from one on are under way
abbrev pub set_running : ℕ → ℕ → List Phase → List Phase
set_running at zero phases = phases
set_running at (suc n) phases = set_running (suc at) n (set_phase at Running phases)
