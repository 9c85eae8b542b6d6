-- The laws of the kinds of step on loops: under its condition each keeps the rule. Most leave the core that words and views show as it is; the others enter the
-- events of a loop and of its indexes. Those that change the pieces of a loop, or how many of its indexes are left, say what they make of its book.
use Rattle.std.specs.Prelude.{◌≡◌, ℕ, suc, ◌+◌, ◌-◌, ◌*◌, ◌<◌, ◌≤◌, true, false, List, [], ◌∷◌, ◌++◌, length, map, set, Some}
use Rattle.atomic_table.specs.Table.{State}
use Rattle.kt_law.specs.declared.limits.TheConstants.{INDEXES, LENGTH, WORKERS}
use Rattle.kt_law.specs.declared.stands.Stand.TheVariants as S
use Rattle.kt_order.specs.Books.{whole_book, take}
use Rattle.kt_prog.specs.Operations.{is_loop_at}
use Rattle.kt_runs.specs.Loops.{CanBegin}
use Rattle.kt_split.specs.Splits.{IsCut}
use Rattle.kt_words.specs.Places.{place, record_word, worker_word, interval, home}
use Rattle.kt_words.specs.Words.{packed_pair}
use Rattle.kt_words.specs.declared.pairs.Pair.{Pair}
use Rattle.kt_pieces.specs.Changes.{cut_all}
use Rattle.kt_rule.specs.declared.views.Setup.{Setup}
use Rattle.kt_rule.specs.declared.views.Spot.{Spot}
use Rattle.kt_rule.specs.declared.views.Execution.{Execution}
use Rattle.kt_rule.specs.declared.views.Share.{Share}
use Rattle.kt_rule.specs.declared.views.Sight.{Sight}
use Rattle.kt_rule.specs.declared.views.IndexRun.{IndexRun}
use Rattle.kt_rule.specs.declared.views.View.{View}
use Rattle.kt_rule.specs.Lists.{In}
use Rattle.kt_rule.specs.Facts.{task_in}
use Rattle.kt_rule.specs.Records.{layout_of, word_at, positions_at}
use Rattle.kt_rule.specs.Rule.{Slots, IsRuled}
use Rattle.kt_rule.specs.Steps.{state_place, state_word}
use Rattle.kt_steps.specs.CoreMoves.{Stays}
use Rattle.kt_steps.specs.Laws.{IsSeat, Enters, after_step}
use Rattle.kt_loops.specs.Hands.{share_from, draws_positions, places_first, homes_at, begins_now, holds_piece, finds_empty, takes_chunk, finds_interval, sights, sights_home, forgets, takes_pieces, retires_some, finds_none_left}
use Rattle.kt_loops.specs.Told.{IsPairWord, IsOwnLoop}
use Rattle.kt_loops.specs.Operations.{AreAtEnd, finishes}
use Rattle.kt_loops.specs.LoopEvents.{BeginsLoop, TakesIndexes, RetiresIndexes, FinishesLoop, LoopEnters, first_at, ShowsBook, BookGoes}

-- the interval word of worker k, and what its home word and a field of a record say
abbrev pub interval_of : Setup → State Slots View → ℕ → ℕ
interval_of j s k = word_at (layout_of j) s.words (worker_word k interval)

abbrev pub home_of : Setup → State Slots View → ℕ → ℕ
home_of j s k = word_at (layout_of j) s.words (worker_word k home)

abbrev pub field_in : Setup → State Slots View → ℕ → ℕ → ℕ
field_in j s a f = word_at (layout_of j) s.words (record_word a f)

-- how many positions were drawn
abbrev pub drawn_in : Setup → State Slots View → ℕ
drawn_in j s = word_at (layout_of j) s.words positions_at

-- worker k has the positions from the lower up to the higher, and the seat's view becomes w
abbrev pub after_interval : Setup → State Slots View → ℕ → ℕ → ℕ → ℕ → View → State Slots View
after_interval j s k low high id w = after_step s (place (layout_of j) (worker_word k interval)) (packed_pair (record { low = low; high = high })) id w

-- a field of a record becomes n
abbrev pub after_field : Setup → State Slots View → ℕ → ℕ → ℕ → ℕ → View → State Slots View
after_field j s a f n id w = after_step s (place (layout_of j) (record_word a f)) n id w

-- no word changes
abbrev pub after_load : State Slots View → ℕ → View → State Slots View
after_load s id w = record { words = s.words; homes = s.homes; views = set s.views id w }

-- A LOOP BEGINS

-- the running body is a loop that has not begun, its zeroing is done, and the seat has no positions for it
pub record IsToDraw (j : Setup) (v : View) (e : Execution) (rest : List Execution) : Type 0 where
  pub runs : v.tasks.running ≡ e ∷ rest
  pub plain : e.looping ≡ false
  pub zeroed : CanBegin j.program (map suc e.spot.path) e.spot.berth.call (task_in j e)
  pub none_pending : v.loops.pending ≡ []
  pub within : v.loops.over ≡ 0

-- the fetch that draws its positions, so many as it is long: the count of all stays within its limit
abbrev pub DrawStays : Type 0
DrawStays = (j : Setup) (s : State Slots View) → IsRuled j s → (id : ℕ) (v : View) → IsSeat s id v → (e : Execution) (rest : List Execution)
    → IsToDraw j v e rest → drawn_in j s + e.spot.berth.call.length ≤ INDEXES
    → Enters j Stays s (after_step s (place (layout_of j) positions_at) (drawn_in j s + e.spot.berth.call.length) id
    (draws_positions v e (drawn_in j s) 0))

-- or goes over it, but never far
abbrev pub OverDrawStays : Type 0
OverDrawStays = (j : Setup) (s : State Slots View) → IsRuled j s → (id : ℕ) (v : View) → IsSeat s id v → (e : Execution) (rest : List Execution)
    → IsToDraw j v e rest → INDEXES < drawn_in j s + e.spot.berth.call.length
    → (drawn_in j s + e.spot.berth.call.length ≤ INDEXES + LENGTH * WORKERS)
    × Enters j Stays s (after_step s (place (layout_of j) positions_at) (drawn_in j s + e.spot.berth.call.length) id
    (draws_positions v e (drawn_in j s) 1))

-- the store of the first position in the loop's record
abbrev pub FirstStays : Type 0
FirstStays = (j : Setup) (s : State Slots View) → IsRuled j s → (id : ℕ) (v : View) → IsSeat s id v → (e : Execution) (rest : List Execution)
    → v.tasks.running ≡ e ∷ rest → e.looping ≡ false → (first : ℕ) → v.loops.pending ≡ share_from e.spot first ∷ []
    → Enters j Stays s (after_field j s e.spot.berth.at 3 (packed_pair (record { low = e.spot.berth.call.length; high = first })) id (places_first v))

-- the store of a record's number in the own home word, while the own interval is empty
abbrev pub HomeStays : Type 0
HomeStays = (j : Setup) (s : State Slots View) → IsRuled j s → (id : ℕ) (v : View) → IsSeat s id v → v.loops.free ≡ true → (a : ℕ)
    → Enters j Stays s (after_step s (place (layout_of j) (worker_word v.worker home)) (suc a) id (homes_at v a))

-- the store of all its positions in the own interval: the loop begins, and its book has all indexes, none of them retired
abbrev pub BeginEnters : Type 0
BeginEnters = (j : Setup) (s : State Slots View) → IsRuled j s → (id : ℕ) (v : View) → IsSeat s id v → (e : Execution) (rest : List Execution)
    → v.tasks.running ≡ e ∷ rest → e.looping ≡ false → CanBegin j.program (map suc e.spot.path) e.spot.berth.call (task_in j e)
    → (first : ℕ) → v.loops.pending ≡ share_from e.spot first ∷ [] → v.loops.placed ≡ true → v.loops.over ≡ 0
    → v.loops.free ≡ true → v.loops.home ≡ suc e.spot.berth.at
    → let s' = after_interval j s v.worker first (first + e.spot.berth.call.length) id (begins_now v e rest) in
    LoopEnters j (BeginsLoop e.spot.path e.spot.berth.call) s s'
    × (first_at j s' e.spot.berth.at ≡ first) × ShowsBook j s' e.spot.berth.at (whole_book e.spot.berth.call.length)

-- PIECES

-- the store of a piece in hand in the own interval, which is empty: its loop has the same book
abbrev pub FillStays : Type 0
FillStays = (j : Setup) (s : State Slots View) → IsRuled j s → (id : ℕ) (v : View) → IsSeat s id v → (x : Share) → In x v.loops.pieces
    → v.loops.home ≡ suc x.spot.berth.at → v.loops.free ≡ true
    → let s' = after_interval j s v.worker x.low x.high id (holds_piece v x) in
    Enters j Stays s s' × BookGoes j x.spot.berth.at (λ b. b) s s'

-- the load of the own interval, which is found empty
abbrev pub EmptyStays : Type 0
EmptyStays = (j : Setup) (s : State Slots View) → IsRuled j s → (id : ℕ) (v : View) → IsSeat s id v → (low high : ℕ)
    → IsPairWord (interval_of j s v.worker) low high → high ≤ low
    → Enters j Stays s (after_load s id (finds_empty v))

-- the exchange that takes the first positions of the own interval: these are indexes of one loop, and each is claimed, in rising order
abbrev pub ChunkEnters : Type 0
ChunkEnters = (j : Setup) (s : State Slots View) → IsRuled j s → (id : ℕ) (v : View) → IsSeat s id v → (low middle high : ℕ)
    → IsPairWord (interval_of j s v.worker) low high → low < middle → middle ≤ high
    → (m : Spot) × (let first = first_at j s m.berth.at in
    let s' = after_interval j s v.worker middle high id (takes_chunk v m first low (middle - low)) in
    IsOwnLoop v m first low high × LoopEnters j (TakesIndexes m.path (low - first) (middle - low)) s s'
    × BookGoes j m.berth.at (λ b. record b { pieces = take (low - first) (middle - low) b.pieces }) s s')

-- A SPLIT

-- the load of a victim's interval, which has two positions or more
abbrev pub SightStays : Type 0
SightStays = (j : Setup) (s : State Slots View) → IsRuled j s → (id : ℕ) (v : View) → IsSeat s id v → (victim : ℕ) → victim < j.workers
    → (low high : ℕ) → IsPairWord (interval_of j s victim) low high → low + 2 ≤ high
    → Enters j Stays s (after_load s id (sights v victim low high))

-- or fewer
abbrev pub ShortSightStays : Type 0
ShortSightStays = (j : Setup) (s : State Slots View) → IsRuled j s → (id : ℕ) (v : View) → IsSeat s id v → (victim : ℕ)
    → Enters j Stays s (after_load s id (forgets (finds_interval v victim (interval_of j s victim))))

-- the load of its home word
abbrev pub HomeSightStays : Type 0
HomeSightStays = (j : Setup) (s : State Slots View) → IsRuled j s → (id : ℕ) (v : View) → IsSeat s id v → (o : Sight) → v.loops.sight ≡ Some o
    → Enters j Stays s (after_load s id (sights_home v o.victim o.low o.high (home_of j s o.victim)))

-- the exchange of that interval, still the one that was seen, which cuts pieces from its end: the loop's book is cut before each, and the loop lies in the
-- record that the home word named
abbrev pub SplitStays : Type 0
SplitStays = (j : Setup) (s : State Slots View) → IsRuled j s → (id : ℕ) (v : View) → IsSeat s id v → (o : Sight) → v.loops.sight ≡ Some o
    → (word : ℕ) → o.home ≡ Some word → IsPairWord (interval_of j s o.victim) o.low o.high → o.low + 2 ≤ o.high
    → (parts : ℕ) → 1 ≤ parts → (kept : Pair) (dealt : List Pair) → IsCut (record { low = o.low; high = o.high }) parts kept dealt
    → (m : Spot) × (let s' = after_interval j s o.victim kept.low kept.high id (takes_pieces v m dealt) in
    (suc m.berth.at ≡ word) × Enters j Stays s s'
    × BookGoes j m.berth.at (λ b. record b { pieces = cut_all (first_at j s m.berth.at) dealt b.pieces }) s s')

-- or one that finds another word there, and changes none
abbrev pub MissedSplitStays : Type 0
MissedSplitStays = (j : Setup) (s : State Slots View) → IsRuled j s → (id : ℕ) (v : View) → IsSeat s id v
    → Enters j Stays s (after_load s id (forgets v))

-- INDEXES

-- these are the first indexes in hand, all of one loop and some, and the end or a fault is the next operation of each
pub record AreToRetire (j : Setup) (v : View) (m : Spot) (done rest : List IndexRun) : Type 0 where
  pub first : v.loops.taken ≡ done ++ rest
  pub same : (e : IndexRun) → In e done → e.spot ≡ m
  pub over : AreAtEnd j done
  pub some_done : 1 ≤ length done

-- the fetch that takes so many from what the loop's record counts, and the view becomes w: each index ends, and is finished
abbrev pub Retires : Setup → State Slots View → ℕ → Spot → List IndexRun → View → Type 0
Retires j s id m done w = let s' = after_field j s m.berth.at 4 (field_in j s m.berth.at 4 - length done) id w in
    LoopEnters j (RetiresIndexes m.path (map (λ (e : IndexRun). e.index) done)) s s'
    × BookGoes j m.berth.at (λ b. record b { unretired = b.unretired - length done }) s s'

-- the fetch finds so many or more
abbrev pub RetireEnters : Type 0
RetireEnters = (j : Setup) (s : State Slots View) → IsRuled j s → (id : ℕ) (v : View) → IsSeat s id v → (m : Spot) (done rest : List IndexRun)
    → AreToRetire j v m done rest
    → (length done ≤ field_in j s m.berth.at 4) × Retires j s id m done (retires_some v done rest)

-- where it finds just so many, the seat knows that none are left
abbrev pub LastRetireEnters : Type 0
LastRetireEnters = (j : Setup) (s : State Slots View) → IsRuled j s → (id : ℕ) (v : View) → IsSeat s id v → (m : Spot) (done rest : List IndexRun)
    → AreToRetire j v m done rest → field_in j s m.berth.at 4 ≡ length done
    → Retires j s id m done (finds_none_left (retires_some v done rest) m.path)

-- the load of the count, by the seat that runs the loop, where none are left
abbrev pub LeftStays : Type 0
LeftStays = (j : Setup) (s : State Slots View) → IsRuled j s → (id : ℕ) (v : View) → IsSeat s id v → (e : Execution) (rest : List Execution)
    → v.tasks.running ≡ e ∷ rest → e.looping ≡ true → field_in j s e.spot.berth.at 4 ≡ 0
    → Enters j Stays s (after_load s id (finds_none_left v e.spot.path))

-- the store that finishes the loop of the running body, of which nothing is left
abbrev pub LoopFinishEnters : Type 0
LoopFinishEnters = (j : Setup) (s : State Slots View) → IsRuled j s → (id : ℕ) (v : View) → IsSeat s id v → (e : Execution) (rest : List Execution)
    → v.tasks.running ≡ e ∷ rest → e.looping ≡ true → is_loop_at j.program e.spot.berth.call.task ≡ true → In e.spot.path v.loops.emptied
    → LoopEnters j (FinishesLoop e.spot.path) s
    (after_step s (state_place (layout_of j) e.spot.berth.at) (state_word e.spot.berth S.Finished) id (finishes v e rest))
