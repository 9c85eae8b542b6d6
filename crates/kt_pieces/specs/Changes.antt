-- What steps on loops change of words, of tasks and of hands.
use Rattle.std.specs.Prelude.{ℕ, zero, suc, ◌+◌, ◌-◌, cond, nat_eq, ◌&&◌, List, [], ◌∷◌, ◌++◌}
use Rattle.kt_order.specs.Books.{Piece, cut}
use Rattle.kt_order.specs.Forest.{Unclaimed, Running, Finished}
use Rattle.kt_words.specs.declared.pairs.Pair.{Pair}
use Rattle.kt_rule.specs.declared.views.Spot.{Spot}
use Rattle.kt_rule.specs.declared.views.Share.{Share}
use Rattle.kt_rule.specs.declared.views.IndexRun.{IndexRun}
use Rattle.kt_rule.specs.Lies.{IndexLie}

-- a function of workers with one entry changed
unfoldable pub at_worker : {A : Type 0} → (ℕ → A) → ℕ → A → ℕ → A
at_worker f k x i = cond (nat_eq i k) x (f i)

-- INDEXES

abbrev pub change_index : ℕ → (IndexLie → IndexLie) → List IndexLie → List IndexLie
change_index i f [] = []
change_index zero f (x ∷ xs) = f x ∷ xs
change_index (suc i) f (x ∷ xs) = x ∷ change_index i f xs

abbrev pub runs_now : IndexLie → IndexLie
runs_now x = record x { phase = Running }

-- it has reached its end, which is an operation too
abbrev pub ends_now : IndexLie → IndexLie
ends_now x = record x { phase = Finished; count = x.count + 1 }

abbrev pub hears : List ℕ → IndexLie → IndexLie
hears found x = record x { answers = x.answers ++ found; count = x.count + 1 }

-- n indexes from one on are under way
abbrev pub run_indexes : ℕ → ℕ → List IndexLie → List IndexLie
run_indexes at zero xs = xs
run_indexes at (suc n) xs = run_indexes (suc at) n (change_index at runs_now xs)

-- these have ended
abbrev pub end_indexes : List IndexRun → List IndexLie → List IndexLie
end_indexes [] xs = xs
end_indexes (e ∷ es) xs = end_indexes es (change_index e.index ends_now xs)

-- PIECES

-- a cut before each of these pieces, in rising order
abbrev pub cut_all : ℕ → List Pair → List Piece → List Piece
cut_all first [] pieces = pieces
cut_all first (x ∷ xs) pieces = cut_all first xs (cut (x.low - first) pieces)

-- HANDS

-- the indexes that a chunk takes of a loop whose first position is known
abbrev pub chunk_of : Spot → ℕ → ℕ → ℕ → List IndexRun
chunk_of m first at zero = []
chunk_of m first at (suc n) = record { spot = m; index = at; position = first + at; answers = []; done = 0 } ∷ chunk_of m first (suc at) n

-- the pieces of a loop, one for each interval
abbrev pub shares_of : Spot → List Pair → List Share
shares_of m [] = []
shares_of m (x ∷ xs) = record { spot = m; low = x.low; high = x.high } ∷ shares_of m xs

-- the pieces but those of this record that begin at this position
abbrev pub without_piece : ℕ → ℕ → List Share → List Share
without_piece at low [] = []
without_piece at low (x ∷ xs) = cond (nat_eq at x.spot.berth.at && nat_eq low x.low) (without_piece at low xs) (x ∷ without_piece at low xs)

-- an index that has reached its end
abbrev pub ended : IndexRun → IndexRun
ended e = record e { done = e.done + 1 }

-- and one that has done an operation, which found these numbers
abbrev pub heard : List ℕ → IndexRun → IndexRun
heard found e = record e { answers = e.answers ++ found; done = e.done + 1 }

-- AS A LOOP BEGINS

abbrev pub untaken_index : IndexLie
untaken_index = record { phase = Unclaimed; answers = []; count = 0 }
