-- What words and views say of loops.
--
-- Positions are drawn from one count, so no two loops have one in common. A position that was drawn stands in one place: in a worker's
-- interval, in the piece that a post gives, or with a seat, which has it pending, in a piece, taken or retired. A loop's indexes that nobody
-- has taken are the pieces of its book, wherever these stand.
use Rattle.std.specs.Prelude.{◌≡◌, ◌≢◌, ℕ, zero, suc, ◌+◌, ◌-◌, ◌*◌, ◌<◌, ◌≤◌, ◌⊎◌, ◌&&◌, Bool, true, false, cond, nat_eq, nat_lt, List, [], ◌∷◌, length, map, Some}
use mathlib.Core.Option.{Option, none, some}
use lib.ListN.{get_elem?}
use Rattle.kt_law.specs.declared.limits.TheConstants.{INDEXES, LENGTH}
use Rattle.kt_order.specs.Books.{Piece, BookOk, below}
use Rattle.kt_order.specs.Forest.{Phase, Unclaimed, Running, Ended, Finished}
use Rattle.kt_order.specs.Paths.{same_path}
use Rattle.kt_runs.specs.ByPath.{Path, child}
use Rattle.kt_words.specs.declared.pairs.Pair.{Pair}
use Rattle.kt_rule.specs.declared.views.Share.{Share}
use Rattle.kt_rule.specs.declared.views.IndexRun.{IndexRun}
use Rattle.kt_rule.specs.declared.views.Sight.{Sight}
use Rattle.kt_rule.specs.Lists.{weigh, one_if, times, In}
use Rattle.kt_rule.specs.Lies.{Stage, Waits, Promised, Posted, Given, Runs, Loops, Done, Gone, IndexLie, Lie, Lies, is_gone}
use Rattle.kt_rule.specs.LoopWords.{LoopWords, Hand, between, sum_below}

-- POSITIONS

abbrev pub in_pair : Pair → ℕ → ℕ
in_pair s x = between s.low s.high x

-- how often a position stands among shares, and among indexes
abbrev pub in_shares : ℕ → List Share → ℕ
in_shares x shares = weigh (λ (s : Share). between s.low s.high x) shares

abbrev pub in_indexes : ℕ → List IndexRun → ℕ
in_indexes x runs = weigh (λ (e : IndexRun). between e.position (suc e.position) x) runs

-- in the piece that a post gives, if it gives one
abbrev pub in_given : ℕ → Pair → ℕ → ℕ
in_given zero s x = 0
in_given (suc a) s x = in_pair s x

abbrev pub in_hand : ℕ → Hand → ℕ
in_hand x h = in_shares x h.loops.pending + (in_shares x h.loops.pieces + (in_indexes x h.loops.taken + in_indexes x h.loops.retired))

-- in how many places a position stands
abbrev pub places_of : ℕ → LoopWords → List Hand → ℕ → ℕ
places_of workers s hands x = sum_below workers (λ k. in_pair (s.interval k) x)
    + (sum_below workers (λ k. in_given (s.given k) (s.piece k) x) + weigh (λ (h : Hand). in_hand x h) hands)

-- TASKS

-- a task that has not begun as a loop, be it one or not
abbrev pub is_early : Stage → Bool
is_early Waits = true
is_early (Promised k) = true
is_early (Posted k) = true
is_early (Given k) = true
is_early (Runs k) = true
is_early (Loops k) = false
is_early Done = false
is_early Gone = false

abbrev pub phase_in : IndexLie → Phase
phase_in x = x.phase

-- in rising order from an index on, none of them empty
abbrev pub Rises : ℕ → List Piece → Type 0
Rises from [] = Unit {0}
Rises from (p ∷ pieces) = (from ≤ p.from) × (p.from < p.to) × Rises p.to pieces

-- the book of a task: nothing where it has not begun as a loop
pub record IsBooked (t : Lie) : Type 0 where
  pub early : is_early t.stage ≡ true → (t.indexes ≡ []) × (t.unretired ≡ t.berth.call.length)
  pub whole : (t.indexes ≡ []) ⊎ (length t.indexes ≡ t.berth.call.length)
  pub rises : Rises 0 t.pieces
  -- an index that nobody has taken has done nothing
  pub fresh : (i : ℕ) (x : IndexLie) → get_elem? t.indexes i ≡ some x → x.phase ≡ Unclaimed → (x.answers ≡ []) × (x.count ≡ 0)
  pub book : BookOk (record { pieces = t.pieces; unretired = t.unretired }) (map phase_in t.indexes)

-- the positions of the loop in the record a, from low up to high, and they are some
pub record IsPiece (lies : Lies) (a low high : ℕ) : Type 0 where
  pub path : Path
  pub task : Lie
  pub is : lies path ≡ some task
  pub live : is_gone task.stage ≡ false
  pub at : task.berth.at ≡ a
  pub some_left : low < high
  pub first : task.first ≤ low
  pub last : high ≤ task.first + length task.indexes

-- a piece in hand
pub record IsShare (lies : Lies) (x : Share) : Type 0 where
  pub task : Lie
  pub is : lies x.spot.path ≡ some task
  pub berth : task.berth ≡ x.spot.berth
  pub live : is_gone task.stage ≡ false
  pub some_left : x.low < x.high
  pub first : task.first ≤ x.low
  pub last : x.high ≤ task.first + length task.indexes

-- positions drawn for a loop that has not begun
pub record IsPending (lies : Lies) (owner : ℕ → Path) (drawn : ℕ) (x : Share) : Type 0 where
  pub task : Lie
  pub is : lies x.spot.path ≡ some task
  pub berth : task.berth ≡ x.spot.berth
  pub none_yet : task.indexes ≡ []
  pub whole : x.low + x.spot.berth.call.length ≡ x.high
  pub counted : x.high ≤ drawn
  pub owned : (n : ℕ) → x.low ≤ n → n < x.high → owner n ≡ x.spot.path

-- and their first one is told by the loop's record
abbrev pub IsPlaced : Lies → Share → Type 0
IsPlaced lies x = (t : Lie) × (lies x.spot.path ≡ some t) × (t.first ≡ x.low)

-- the loop has begun, and nothing of it is left
abbrev pub IsEmptied : Lies → Path → Type 0
IsEmptied lies p = (t : Lie) × (lies p ≡ some t) × (is_early t.stage ≡ false) × (t.unretired ≡ 0)

-- an index in hand or retired is in this phase, and did what the seat knows
pub record IsIndex (lies : Lies) (phase : Phase) (e : IndexRun) : Type 0 where
  pub task : Lie
  pub index : IndexLie
  pub is : lies e.spot.path ≡ some task
  pub berth : task.berth ≡ e.spot.berth
  pub at : get_elem? task.indexes e.index ≡ some index
  pub position : e.position ≡ task.first + e.index
  pub phase_is : index.phase ≡ phase
  pub answers : index.answers ≡ e.answers
  pub count : index.count ≡ e.done

-- how often an index of the loop at a path stands in a list
abbrev pub index_times : Path → ℕ → List IndexRun → ℕ
index_times p i runs = weigh (λ (e : IndexRun). one_if (same_path p e.spot.path && nat_eq i e.index)) runs

abbrev pub is_taken : Phase → ℕ
is_taken Unclaimed = 0
is_taken Running = 1
is_taken Ended = 0
is_taken Finished = 0

abbrev pub is_retired : Phase → ℕ
is_retired Unclaimed = 0
is_retired Running = 0
is_retired Ended = 0
is_retired Finished = 1

abbrev pub index_tally : (Phase → ℕ) → Option IndexLie → ℕ
index_tally f none = 0
index_tally f (some x) = f x.phase

abbrev pub task_tally : (Phase → ℕ) → ℕ → Option Lie → ℕ
task_tally f i none = 0
task_tally f i (some t) = index_tally f (get_elem? t.indexes i)

-- how many retired indexes the loop at a path has
abbrev pub retired_of : Path → List Hand → ℕ
retired_of p hands = weigh (λ (h : Hand). weigh (λ (e : IndexRun). one_if (same_path p e.spot.path)) h.loops.retired) hands

-- THE PIECES THAT ARE SHOWN

-- 1 where the word names the record a and the piece is this one and not empty, else 0
abbrev pub piece_is : ℕ → ℕ → ℕ → ℕ → Pair → ℕ
piece_is word low high a q =
    cond (nat_eq word (suc a)) (cond (nat_lt low high) (one_if (nat_eq low q.low && nat_eq high q.high)) 0) 0

abbrev pub shown_pieces : ℕ → LoopWords → List Hand → ℕ → Pair → ℕ
shown_pieces workers s hands a q = sum_below workers (λ k. piece_is (s.home k) (s.interval k).low (s.interval k).high a q)
    + (sum_below workers (λ k. piece_is (s.given k) (s.piece k).low (s.piece k).high a q)
    + weigh (λ (h : Hand). weigh (λ (x : Share). piece_is (suc x.spot.berth.at) x.low x.high a q) h.loops.pieces) hands)

abbrev pub count_piece : Pair → ℕ → List Piece → ℕ
count_piece q first pieces = weigh (λ (p : Piece). one_if (nat_eq (first + p.from) q.low && nat_eq (first + p.to) q.high)) pieces

-- THE SIGHT OF A SPLIT

-- the positions do not hold the first one that was seen, or they begin there and end sooner
abbrev pub IsUnder : Sight → ℕ → ℕ → Type 0
IsUnder n low high = between low high n.low ≡ 1 → (low ≡ n.low) × (high < n.high)

-- no positions but those of the victim's interval are or can become those that were seen; and as long as they are there, the home
-- word that was read is theirs
pub record IsSeen (workers : ℕ) (s : LoopWords) (hands : List Hand) (n : Sight) : Type 0 where
  pub inside : n.victim < workers
  pub some_left : n.low < n.high
  pub counted : n.low < s.drawn
  pub intervals : (k : ℕ) → k < workers
      → ((k ≡ n.victim) × (s.interval k ≡ record { low = n.low; high = n.high })) ⊎ IsUnder n (s.interval k).low (s.interval k).high
  pub pieces : (k : ℕ) → k < workers → s.given k ≢ 0 → IsUnder n (s.piece k).low (s.piece k).high
  pub shares : (h : Hand) → In h hands → (x : Share) → In x h.loops.pieces → IsUnder n x.low x.high
  pub pending : (h : Hand) → In h hands → (x : Share) → In x h.loops.pending → IsUnder n x.low x.high
  pub home : (word : ℕ) → n.home ≡ Some word → s.interval n.victim ≡ record { low = n.low; high = n.high } → s.home n.victim ≡ word

-- WHAT A SEAT KNOWS

pub record Handles (workers : ℕ) (lies : Lies) (owner : ℕ → Path) (s : LoopWords) (hands : List Hand) (seat : ℕ) (h : Hand) : Type 0 where
  pub pending : (x : Share) → In x h.loops.pending → IsPending lies owner s.drawn x
  pub pieces : (x : Share) → In x h.loops.pieces → IsShare lies x
  pub taken : (e : IndexRun) → In e h.loops.taken → IsIndex lies Running e
  pub retired : (e : IndexRun) → In e h.loops.retired → IsIndex lies Finished e
  pub placed : h.loops.placed ≡ true → (x : Share) → In x h.loops.pending → IsPlaced lies x
  pub emptied : (p : Path) → In p h.loops.emptied → IsEmptied lies p
  -- of the own words, and of a victim, as long as the seat is live
  pub free : 0 < h.parts → h.loops.free ≡ true → (s.interval seat).high ≤ (s.interval seat).low
  pub home : 0 < h.parts → s.home seat ≡ h.loops.home
  pub sight : 0 < h.parts → (n : Sight) → h.loops.sight ≡ Some n → IsSeen workers s hands n
  -- the count goes over the limit once for each seat at most, and what was drawn over it stays pending
  pub overs : h.loops.over ≤ h.parts
  pub held : h.loops.over ≤ length h.loops.pending
  pub crossed : 0 < h.loops.over → INDEXES < s.drawn

-- how many positions a seat has pending whose draw was over the limit
abbrev pub over_long : Hand → ℕ
over_long h = cond (nat_eq h.loops.over 0) 0 (weigh (λ (x : Share). x.spot.berth.call.length) h.loops.pending)

-- ALL OF IT

pub record Looped (workers : ℕ) (lies : Lies) (s : LoopWords) (hands : List Hand) : Type 0 where
  -- the loop that drew a position
  pub owner : ℕ → Path
  pub positions : (x : ℕ) → places_of workers s hands x ≡ below s.drawn x
  pub owned : (p : Path) (t : Lie) (x : ℕ) → lies p ≡ some t → t.first ≤ x → x < t.first + length t.indexes
      → (owner x ≡ p) × (x < s.drawn)
  -- an interval that is not empty, and a piece that a post gives, is of the loop that stands beside it
  pub homes : (k : ℕ) → k < workers → (s.interval k).low < (s.interval k).high
      → (a : ℕ) × (s.home k ≡ suc a) × IsPiece lies a (s.interval k).low (s.interval k).high
  pub given : (k a : ℕ) → k < workers → s.given k ≡ suc a → IsPiece lies a (s.piece k).low (s.piece k).high
  pub booked : (p : Path) (t : Lie) → lies p ≡ some t → IsBooked t
  -- the pieces of a book are those that words and hands show
  pub shown : (p : Path) (t : Lie) (q : Pair) → lies p ≡ some t → is_gone t.stage ≡ false
      → shown_pieces workers s hands t.berth.at q ≡ count_piece q t.first t.pieces
  -- an index that was taken, or retired, is with one seat
  pub taken : (p : Path) (i : ℕ) → weigh (λ (h : Hand). index_times p i h.loops.taken) hands ≡ task_tally is_taken i (lies p)
  pub retired : (p : Path) (i : ℕ) → weigh (λ (h : Hand). index_times p i h.loops.retired) hands ≡ task_tally is_retired i (lies p)
  pub left : (p : Path) (t : Lie) → lies p ≡ some t → t.unretired + retired_of p hands ≡ t.berth.call.length
  -- no task is below a loop that has begun
  pub childless : (p : Path) (i : ℕ) (t u : Lie) → lies p ≡ some t → lies (child p i) ≡ some u → t.indexes ≡ []
  pub handles : (seat : ℕ) (h : Hand) → get_elem? hands seat ≡ some h → Handles workers lies owner s hands seat h
  -- workers without a seat have no positions
  pub unmade : (k : ℕ) → length hands ≤ k → k < workers → ((s.interval k).high ≤ (s.interval k).low) × (s.home k ≡ 0)
  pub bound : s.drawn ≤ INDEXES + LENGTH * weigh (λ (h : Hand). h.loops.over) hands
  pub beyond : s.drawn ≤ INDEXES + weigh over_long hands
