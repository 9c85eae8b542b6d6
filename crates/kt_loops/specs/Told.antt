-- What the steps of the calls tell. A step names its word by its number alone, so it tells of whichever loop or worker that word is of.
use Rattle.std.specs.Prelude.{◌≡◌, ℕ, suc, ◌+◌, ◌-◌, ◌*◌, ◌<◌, ◌≤◌, ◌⊎◌, ◌==◌, true, List, ◌∷◌, ◌++◌, length, MatchBool, Option, Some}
use Rattle.atomic_table.specs.Table.{Step}
use Rattle.kt_law.specs.declared.limits.TheConstants.{INDEXES, LENGTH, WORKERS}
use Rattle.kt_order.specs.Body.{Stop}
use Rattle.kt_order.specs.Rest.{left}
use Rattle.kt_prog.specs.Fits.{Fits}
use Rattle.kt_prog.specs.Reference.{machine_of}
use Rattle.kt_prog.specs.Script.{Fault}
use Rattle.kt_split.specs.Splits.{IsCut}
use Rattle.kt_words.specs.Places.{place, record_word, worker_word, interval, home}
use Rattle.kt_words.specs.Words.{packed_pair, IsPair}
use Rattle.kt_words.specs.declared.layouts.TheConstants.{RECORDS}
use Rattle.kt_words.specs.declared.pairs.Pair.{Pair}
use Rattle.kt_rule.specs.declared.views.Setup.{Setup}
use Rattle.kt_rule.specs.declared.views.Spot.{Spot}
use Rattle.kt_rule.specs.declared.views.Execution.{Execution}
use Rattle.kt_rule.specs.declared.views.Share.{Share}
use Rattle.kt_rule.specs.declared.views.IndexRun.{IndexRun}
use Rattle.kt_rule.specs.declared.views.Sight.{Sight}
use Rattle.kt_rule.specs.declared.views.View.{View}
use Rattle.kt_rule.specs.Lists.{In}
use Rattle.kt_rule.specs.Records.{layout_of}
use Rattle.kt_rule.specs.Facts.{index_task}
use Rattle.kt_rule.specs.Rule.{Slots}
use Rattle.kt_loops.specs.Hands.{draws_positions, places_first, homes_at, begins_now, holds_piece, finds_empty, takes_chunk, finds_interval, sights, sights_home, forgets, takes_pieces, retires_some, finds_none_left}

-- a word that is packed from a pair, from the lower number up to the higher
abbrev pub IsPairWord : ℕ → ℕ → ℕ → Type 0
IsPairWord word low high = IsPair (record { low = low; high = high }) × (word ≡ packed_pair (record { low = low; high = high }))

-- A LOOP BEGINS

-- as many positions were drawn as the running loop is long, within the limit or over it
abbrev pub DrawsPositions : Step Slots → View → ℕ → View → Type 0
DrawsPositions st v n w = (e : Execution) (rest : List Execution) → v.tasks.running ≡ e ∷ rest → st.first ≡ e.spot.berth.call.length
    → (n + st.first ≤ INDEXES + LENGTH * WORKERS)
    × (((n + st.first ≤ INDEXES) × (w ≡ draws_positions v e n 0)) ⊎ ((INDEXES < n + st.first) × (w ≡ draws_positions v e n 1)))

-- the running loop's record tells the first position
abbrev pub PlacesFirst : Step Slots → View → ℕ → View → Type 0
PlacesFirst st v n w = w ≡ places_first v

abbrev pub HomesAt : Step Slots → View → ℕ → View → Type 0
HomesAt st v n w = (a : ℕ) → st.first ≡ suc a → w ≡ homes_at v a

abbrev pub BeginsAt : Step Slots → View → ℕ → View → Type 0
BeginsAt st v n w = (e : Execution) (rest : List Execution) → v.tasks.running ≡ e ∷ rest → w ≡ begins_now v e rest

-- PIECES

abbrev pub HoldsAt : Step Slots → View → ℕ → View → Type 0
HoldsAt st v n w = (x : Share) → In x v.loops.pieces → suc x.spot.berth.at ≡ v.loops.home → IsPairWord st.first x.low x.high
    → w ≡ holds_piece v x

-- the own interval, which may be found empty
abbrev pub FindsInterval : Step Slots → View → ℕ → View → Type 0
FindsInterval st v n w = (low high : ℕ) × IsPairWord n low high
    × (((low < high) × (w ≡ v)) ⊎ ((high ≤ low) × (w ≡ finds_empty v)))

-- the loop of the own interval: its record is the one that the own home word names, and the interval is within its positions, which begin with `first`
pub record IsOwnLoop (v : View) (m : Spot) (first low high : ℕ) : Type 0 where
  pub home : suc m.berth.at ≡ v.loops.home
  pub from : first ≤ low
  pub within : high ≤ first + m.berth.call.length
  pub inside : (j : Setup) → v.setup ≡ Some j → (m.berth.at < RECORDS * j.workers) × Fits j.program m.berth.call

-- the first positions of the interval that was expected are taken, or another was found
abbrev pub TakesChunk : Step Slots → View → ℕ → View → Type 0
TakesChunk st v n w = (low middle high : ℕ) → IsPairWord st.first low high → IsPairWord st.second middle high → low < middle → middle ≤ high
    → MatchBool (n == st.first)
    ((m : Spot) × (first : ℕ) × IsOwnLoop v m first low high × (w ≡ takes_chunk v m first low (middle - low)))
    (w ≡ v)

-- a victim's interval; it is of use where it has two positions
abbrev pub Sights : Step Slots → View → ℕ → View → Type 0
Sights st v n w = (low high : ℕ) × IsPairWord n low high
    × ((j : Setup) → v.setup ≡ Some j → (victim : ℕ) → victim < j.workers → st.word ≡ place (layout_of j) (worker_word victim interval)
    → ((low + 2 ≤ high) × (w ≡ sights v victim low high)) ⊎ ((high < low + 2) × (w ≡ forgets (finds_interval v victim n))))

-- and its home word, which names a record as long as the interval stays
abbrev pub SightsHome : Step Slots → View → ℕ → View → Type 0
SightsHome st v n w = (o : Sight) → v.loops.sight ≡ Some o → (j : Setup) → v.setup ≡ Some j
    → st.word ≡ place (layout_of j) (worker_word o.victim home) → w ≡ sights_home v o.victim o.low o.high n

-- the loop of the record with this number
pub record IsLoopAt (v : View) (m : Spot) (at : ℕ) : Type 0 where
  pub lies : m.berth.at ≡ at
  pub inside : (j : Setup) → v.setup ≡ Some j → (at < RECORDS * j.workers) × (j.workers ≤ 8)

-- no piece in hand begins among these positions
abbrev pub AreNew : View → ℕ → ℕ → Type 0
AreNew v low high = (x : Share) → In x v.loops.pieces → (x.low < low) ⊎ (high ≤ x.low)

-- the interval that was seen is cut for so many parts, or another was found
abbrev pub Splits : ℕ → Step Slots → View → ℕ → View → Type 0
Splits parts st v n w = (o : Sight) → v.loops.sight ≡ Some o → (word : ℕ) → o.home ≡ Some word → (kept : Pair) (dealt : List Pair)
    → IsCut (record { low = o.low; high = o.high }) parts kept dealt → st.first ≡ packed_pair (record { low = o.low; high = o.high })
    → IsPairWord st.second kept.low kept.high
    → MatchBool (n == st.first)
    ((m : Spot) × (suc m.berth.at ≡ word) × IsLoopAt v m m.berth.at × AreNew v o.low o.high × (w ≡ takes_pieces v m dealt))
    (w ≡ forgets v)

-- INDEXES

-- these are the first indexes in hand, all of one loop, and the end or a fault is the next operation of each
pub record AreOver (v : View) (m : Spot) (done rest : List IndexRun) : Type 0 where
  pub setup : Setup
  pub told : v.setup ≡ Some setup
  pub first : v.loops.taken ≡ done ++ rest
  pub same : (e : IndexRun) → In e done → e.spot ≡ m
  pub over : (e : IndexRun) → In e done → (fault : Option Fault) × (left (machine_of setup.program) (index_task setup e) ≡ Stop fault)

-- so many of them are retired; where no more were left, the seat knows that
abbrev pub RetiresSome : Step Slots → View → ℕ → View → Type 0
RetiresSome st v n w = (m : Spot) (done rest : List IndexRun) → AreOver v m done rest → length done ≡ st.first
    → (st.first ≤ n) × (n ≤ LENGTH)
    × MatchBool (n == st.first) (w ≡ finds_none_left (retires_some v done rest) m.path) (w ≡ retires_some v done rest)

-- how many indexes of the running loop are left
abbrev pub CountsLeft : Step Slots → View → ℕ → View → Type 0
CountsLeft st v n w = (e : Execution) (rest : List Execution) → v.tasks.running ≡ e ∷ rest → e.looping ≡ true
    → (n ≤ LENGTH) × MatchBool (n == 0) (w ≡ finds_none_left v e.spot.path) (w ≡ v)

-- how long the loop in hand is that lies in the record, and its first position
pub record IsExtent (v : View) (at long first : ℕ) : Type 0 where
  pub taken : (e : IndexRun) → In e v.loops.taken → e.spot.berth.at ≡ at → e.position ≡ first + e.index
  pub pieces : (x : Share) → In x v.loops.pieces → x.spot.berth.at ≡ at → first ≤ x.low
  pub runs : (e : Execution) (rest : List Execution) → v.tasks.running ≡ e ∷ rest → e.spot.berth.at ≡ at → long ≡ e.spot.berth.call.length

abbrev pub FindsFirst : Step Slots → View → ℕ → View → Type 0
FindsFirst st v n w = (w ≡ v) × ((at : ℕ) → (j : Setup) → v.setup ≡ Some j → at < RECORDS * j.workers
    → st.word ≡ place (layout_of j) (record_word at 3) → (long first : ℕ) × IsPairWord n long first × IsExtent v at long first)
