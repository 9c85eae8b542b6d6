-- When a seat may make each call, and what the call answers and makes of its view.
use Rattle.std.specs.Prelude.{◌≡◌, ◌≢◌, ℕ, suc, ◌+◌, ◌-◌, ◌*◌, ◌<◌, ◌≤◌, ◌==◌, min, true, false, List, [], ◌∷◌, length, map, MatchBool, Some}
use Rattle.kt_law.specs.declared.limits.TheConstants.{INDEXES, LENGTH, WORKERS}
use Rattle.kt_runs.specs.Loops.{CanBegin}
use Rattle.kt_split.specs.Intervals.{size}
use Rattle.kt_split.specs.Splits.{IsCut}
use Rattle.kt_words.specs.Words.{packed_pair, IsPair}
use Rattle.kt_words.specs.declared.pairs.Pair.{Pair}
use Rattle.kt_rule.specs.declared.views.Setup.{Setup}
use Rattle.kt_rule.specs.declared.views.Spot.{Spot}
use Rattle.kt_rule.specs.declared.views.Execution.{Execution}
use Rattle.kt_rule.specs.declared.views.Share.{Share}
use Rattle.kt_rule.specs.declared.views.IndexRun.{IndexRun}
use Rattle.kt_rule.specs.declared.views.View.{View}
use Rattle.kt_rule.specs.Lists.{In}
use Rattle.kt_rule.specs.Steps.{knows_stop}
use Rattle.kt_rule.specs.Facts.{task_in}
use Rattle.kt_loops.specs.Hands.{share_from, draws_positions, places_first, homes_at, begins_now, holds_piece, finds_empty, takes_chunk, finds_interval, forgets, takes_pieces, retires_some, finds_none_left}
use Rattle.kt_loops.specs.Told.{IsOwnLoop, IsLoopAt, AreNew, AreOver}
use Rattle.kt_loops.specs.declared.loops.Begun.{Begun}
use Rattle.kt_loops.specs.declared.loops.Begun.TheVariants as B
use Rattle.kt_loops.specs.declared.pieces.Taken.{Taken}
use Rattle.kt_loops.specs.declared.pieces.Taken.TheVariants as T
use Rattle.kt_loops.specs.declared.splits.Divided.{Divided}
use Rattle.kt_loops.specs.declared.splits.Divided.TheVariants as D

-- the running body is a loop in the record `at` that has not begun and whose zeroing is done, the own interval is empty, no index is in hand, and no draw of
-- the seat was over a limit
pub record MayBegin (v : View) (at : ℕ) : Type 0 where
  pub setup : Setup
  pub told : v.setup ≡ Some setup
  pub head : Execution
  pub rest : List Execution
  pub runs : v.tasks.running ≡ head ∷ rest
  pub lies : head.spot.berth.at ≡ at
  pub plain : head.looping ≡ false
  pub zeroed : CanBegin setup.program (map suc head.spot.path) head.spot.berth.call (task_in setup head)
  pub free : v.loops.free ≡ true
  pub none_taken : v.loops.taken ≡ []
  pub none_pending : v.loops.pending ≡ []
  pub within : v.draws.over ≡ 0
  pub within_positions : v.loops.over ≡ 0

-- positions of the running loop were drawn from this one on, and its record may tell so
pub record MayPlace (v : View) (at length first : ℕ) : Type 0 where
  pub head : Execution
  pub rest : List Execution
  pub runs : v.tasks.running ≡ head ∷ rest
  pub lies : head.spot.berth.at ≡ at
  pub long : head.spot.berth.call.length ≡ length
  pub drawn : v.loops.pending ≡ share_from head.spot first ∷ []
  pub plain : head.looping ≡ false

-- its positions, from the first on, are the own interval
abbrev pub begun_loop : View → Execution → List Execution → ℕ → ℕ → View
begun_loop v e rest at first = begins_now (homes_at (places_first (draws_positions v e first 0)) at) e rest

-- or the draw was over the limit: its positions stay in hand, and the run stops
abbrev pub HasBegun : View → ℕ → View → Begun → Type 0
HasBegun v at w (B.Begun first) = (e : Execution) (rest : List Execution) → v.tasks.running ≡ e ∷ rest
    → (w ≡ begun_loop v e rest at first) × (first + e.spot.berth.call.length ≤ INDEXES)
HasBegun v at w (B.Limit count) = (e : Execution) (rest : List Execution) → v.tasks.running ≡ e ∷ rest
    → ((first : ℕ) × (first + e.spot.berth.call.length ≡ count) × (w ≡ knows_stop (draws_positions v e first 1)))
    × (INDEXES < count) × (count ≤ INDEXES + LENGTH * WORKERS)

-- the piece is in hand, the own interval is empty, and no index is in hand
pub record MayHold (v : View) (at : ℕ) (piece : Pair) : Type 0 where
  pub share : Share
  pub is : In share v.loops.pieces
  pub lies : share.spot.berth.at ≡ at
  pub low : share.low ≡ piece.low
  pub high : share.high ≡ piece.high
  pub free : v.loops.free ≡ true
  pub none_taken : v.loops.taken ≡ []

abbrev pub HasHeld : View → ℕ → Pair → View → Type 0
HasHeld v at piece w = (x : Share) → In x v.loops.pieces → x.spot.berth.at ≡ at → x.low ≡ piece.low → x.high ≡ piece.high
    → w ≡ holds_piece (homes_at v at) x

-- the first min(grain, length) positions of the interval that the load found; it found an empty one; or the exchange found another
abbrev pub HasTaken : View → ℕ → View → Taken → Type 0
HasTaken v grain w (T.Got piece) = (high : ℕ) × (piece.low < high) × (piece.high ≡ piece.low + min grain (high - piece.low))
    × ((m : Spot) × (first : ℕ) × IsOwnLoop v m first piece.low high × (w ≡ takes_chunk v m first piece.low (piece.high - piece.low)))
HasTaken v grain w T.Empty = w ≡ finds_empty v
HasTaken v grain w (T.Moved word) = (w ≡ v) × ((low high : ℕ) × (low < high) × (word ≢ packed_pair (record { low = low; high = high })))

-- the pair that was found in the victim's interval, which the view holds behind what it found before. Where it has two positions or more
-- it is cut, and the pieces are in hand, which are none that were in hand; it was shorter; or the exchange found another word
abbrev pub HasSplit : ℕ → View → ℕ → View → Divided → Type 0
HasSplit victim v parts w (D.Got at pieces) = (m : Spot) × IsLoopAt v m at × ((found kept : Pair) × IsPair found × (found.low + 2 ≤ found.high)
    × IsCut found parts kept pieces.items × AreNew v found.low found.high
    × (w ≡ takes_pieces (finds_interval v victim (packed_pair found)) m pieces.items))
HasSplit victim v parts w (D.Short count) = (found : Pair) × IsPair found × (count ≡ size found) × (count < 2)
    × (w ≡ forgets (finds_interval v victim (packed_pair found)))
HasSplit victim v parts w (D.Moved word) = (found : Pair) × IsPair found × (found.low + 2 ≤ found.high) × (word ≢ packed_pair found)
    × (w ≡ forgets (finds_interval v victim (packed_pair found)))

-- so many of the indexes in hand, the first ones, are of the loop in this record and over
pub record MayRetire (v : View) (at count : ℕ) : Type 0 where
  pub spot : Spot
  pub done : List IndexRun
  pub rest : List IndexRun
  pub over : AreOver v spot done rest
  pub lies : spot.berth.at ≡ at
  pub many : length done ≡ count
  pub some_done : 1 ≤ count

abbrev pub HasRetired : View → ℕ → ℕ → View → ℕ → Type 0
HasRetired v at count w rest_of = (m : Spot) (done rest : List IndexRun) → AreOver v m done rest → m.berth.at ≡ at → length done ≡ count
    → MatchBool (rest_of == 0) (w ≡ finds_none_left (retires_some v done rest) m.path) (w ≡ retires_some v done rest)

-- the running body is a loop that has begun, in this record
pub record RunsLoop (v : View) (at : ℕ) : Type 0 where
  pub head : Execution
  pub rest : List Execution
  pub runs : v.tasks.running ≡ head ∷ rest
  pub lies : head.spot.berth.at ≡ at
  pub looping : head.looping ≡ true

abbrev pub HasLeft : View → View → ℕ → Type 0
HasLeft v w count = (e : Execution) (rest : List Execution) → v.tasks.running ≡ e ∷ rest
    → MatchBool (count == 0) (w ≡ finds_none_left v e.spot.path) (w ≡ v)
