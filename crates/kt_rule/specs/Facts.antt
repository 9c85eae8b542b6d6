-- What the words and the views say of the tasks, whichever step comes next: of records, of what a seat knows, of the
-- lists of all seats together, of the drawn count, and of the stop word.
use Rattle.std.specs.Prelude.{◌≡◌, ℕ, suc, ◌+◌, ◌*◌, ◌<◌, ◌≤◌, ◌⊎◌, Bool, true, false, List, [], ◌∷◌, ◌++◌, length, map, take, Some}
use mathlib.Core.Option.{Option, none, some}
use lib.ListN.{get_elem?}
use Rattle.kt_law.specs.declared.limits.TheConstants.{INDEXES, TASKS}
use Rattle.kt_law.specs.declared.accesses.Access.{Access}
use Rattle.kt_law.specs.declared.stands.Stand.TheVariants as S
use Rattle.kt_order.specs.Forest.{Task, Running, Finished}
use Rattle.kt_order.specs.Rest.{left}
use Rattle.kt_prog.specs.Calls.{Index}
use Rattle.kt_prog.specs.Reference.{machine_of}
use Rattle.kt_runs.specs.Theorems.{whole_at}
use Rattle.kt_runs.specs.ByPath.{Path, child}
use Rattle.kt_words.specs.Places.{total_of, record_word}
use Rattle.kt_words.specs.Words.{packed_state, packed_head, packed_access, IsStateWord, IsHeadWord, IsAccess}
use Rattle.kt_words.specs.declared.layouts.TheConstants.{RECORDS, FIELDS}
use Rattle.kt_words.specs.declared.layouts.Layout.{Layout}
use Rattle.kt_words.specs.declared.heads.HeadWord.{HeadWord}
use Rattle.kt_words.specs.declared.states.StateWord.{StateWord}
use Rattle.kt_rule.specs.declared.views.Setup.{Setup}
use Rattle.kt_rule.specs.declared.views.Spot.{Spot}
use Rattle.kt_rule.specs.declared.views.Execution.{Execution}
use Rattle.kt_rule.specs.declared.views.Note.{Note}
use Rattle.kt_rule.specs.declared.views.Stored.{Stored}
use Rattle.kt_rule.specs.declared.views.Region.{Region}
use Rattle.kt_rule.specs.declared.views.Share.{Share}
use Rattle.kt_rule.specs.declared.views.IndexRun.{IndexRun}
use Rattle.kt_rule.specs.declared.views.View.{View}
use Rattle.kt_rule.specs.Lists.{weigh, In}
use Rattle.kt_rule.specs.Weights.{next_weight, forks_ahead, is_task, is_index}
use Rattle.kt_rule.specs.Lies.{Stage, Waits, Promised, Posted, Given, Runs, Loops, Done, Gone, Lie, Lies, phase_of, is_gone, task_of, forks_of}
use Rattle.kt_rule.specs.Records.{layout_of, word_at, drawn_at, positions_at, stop_at, own_record, state_of, head_of, field_of, stand_in, fork_in, frame_in, frame_floor}
use Rattle.kt_rule.specs.Views.{mine_in, claimed_in, given_in, begun_in, drawn_in, indexes_of, positions_in, pending_in, frames, roots, spent}

-- STAGES, COUNTED: 1 where a task stands so, else 0

abbrev pub is_there : Stage → ℕ
is_there s = 1

abbrev pub is_claimed : Stage → ℕ
is_claimed Waits = 0
is_claimed (Promised k) = 1
is_claimed (Posted k) = 1
is_claimed (Given k) = 1
is_claimed (Runs k) = 1
is_claimed (Loops k) = 1
is_claimed Done = 1
is_claimed Gone = 1

abbrev pub is_promised : Stage → ℕ
is_promised Waits = 0
is_promised (Promised k) = 1
is_promised (Posted k) = 0
is_promised (Given k) = 0
is_promised (Runs k) = 0
is_promised (Loops k) = 0
is_promised Done = 0
is_promised Gone = 0

abbrev pub is_given : Stage → ℕ
is_given Waits = 0
is_given (Promised k) = 0
is_given (Posted k) = 0
is_given (Given k) = 1
is_given (Runs k) = 0
is_given (Loops k) = 0
is_given Done = 0
is_given Gone = 0

abbrev pub is_begun : Stage → ℕ
is_begun Waits = 0
is_begun (Promised k) = 0
is_begun (Posted k) = 0
is_begun (Given k) = 0
is_begun (Runs k) = 1
is_begun (Loops k) = 1
is_begun Done = 1
is_begun Gone = 1

abbrev pub tally : (Stage → ℕ) → Option Lie → ℕ
tally f none = 0
tally f (some t) = f t.stage

-- each path stands in the lists of all seats as often as its task's stage says
abbrev pub Tally : (View → Path → ℕ) → (Stage → ℕ) → Lies → List View → Type 0
Tally g f lies views = (p : Path) → weigh (λ (v : View). g v p) views ≡ tally f (lies p)

-- RECORDS

abbrev pub IsHeadAt : ℕ → Type 0
IsHeadAt word = (h : HeadWord) × IsHeadWord h × (word ≡ packed_head h)

abbrev pub IsAccessAt : ℕ → ℕ → Type 0
IsAccessAt objects word = (a : Access) × IsAccess a × (a.hi ≤ objects) × (word ≡ packed_access a)

-- the word of a task that finished there, and was left behind
abbrev pub IsLeft : ℕ → Type 0
IsLeft word = (x : StateWord) × IsStateWord x × (x.stand ≡ S.Finished) × (word ≡ packed_state x)

-- a task lies there, and its record is its own
abbrev pub LiesAt : Lies → ℕ → Type 0
LiesAt lies a = (p : Path) × (t : Lie) × (lies p ≡ some t) × (is_gone t.stage ≡ false) × (t.berth.at ≡ a)

-- what holds of each task by itself: its numbers fit its words, and one that has not begun has done nothing
pub record Sound (p : Path) (t : Lie) : Type 0 where
  pub state : IsStateWord (state_of t)
  pub head : IsHeadWord (head_of t)
  pub deep : t.berth.call.depth ≡ length p
  pub accesses : (k : ℕ) (a : Access) → get_elem? t.berth.call.accesses k ≡ some a → IsAccess a
  pub fresh : is_begun t.stage ≡ 0 → (t.answers ≡ []) × (t.count ≡ 0)

-- the words say all of each task, no two tasks have one record, and the children of one task lie side by side in one frame
pub record Words (l : Layout) (lies : Lies) (ws : List ℕ) : Type 0 where
  pub wide : total_of l ≤ length ws
  pub inside : (p : Path) (t : Lie) → lies p ≡ some t → t.berth.at < RECORDS * l.workers
  pub sound : (p : Path) (t : Lie) → lies p ≡ some t → Sound p t
  pub says : (p : Path) (t : Lie) → lies p ≡ some t → (f n : ℕ) → f < FIELDS → field_of t f ≡ some n
      → word_at l ws (record_word t.berth.at f) ≡ n
  pub alone : (p q : Path) (t u : Lie) → lies p ≡ some t → lies q ≡ some u → is_gone t.stage ≡ false → is_gone u.stage ≡ false
      → t.berth.at ≡ u.berth.at → p ≡ q
  pub named : (a : ℕ) → a < RECORDS * l.workers
      → (word_at l ws (record_word a 0) ≡ 0) ⊎ (LiesAt lies a ⊎ IsLeft (word_at l ws (record_word a 0)))
  pub beside : (q : Path) (i k : ℕ) (t u : Lie) → lies (child q i) ≡ some t → lies (child q k) ≡ some u
      → (is_gone t.stage ≡ is_gone u.stage) × (t.berth.frame ≡ u.berth.frame) × (t.berth.at + k ≡ u.berth.at + i)
  pub numbered : (q : Path) (i : ℕ) (t : Lie) → lies (child q i) ≡ some t → t.berth.fork ≡ suc i
  pub parents : (q : Path) (i : ℕ) (t u : Lie) → lies (child q i) ≡ some t → lies q ≡ some u → t.berth.parent ≡ suc u.berth.at
  -- a task above one that lives does so too
  pub above : (q : Path) (i : ℕ) (t u : Lie) → lies (child q i) ≡ some t → lies q ≡ some u → is_gone t.stage ≡ false
      → is_gone u.stage ≡ false
  -- whoever reads a record while it is written finds packed words
  pub heads : (a : ℕ) → a < RECORDS * l.workers → IsHeadAt (word_at l ws (record_word a 1))
  pub accesses : (a k : ℕ) → a < RECORDS * l.workers → k < 8 → IsAccessAt l.objects (word_at l ws (record_word a (13 + k)))

-- VIEWS

-- what a note says of the task that lies in that record with that frame, if any does
pub record Says (n : Note) (t : Lie) : Type 0 where
  pub fork : t.berth.fork ≡ fork_in n.word
  pub finished : stand_in n.word ≡ 4 → phase_of t.stage ≡ Finished
  pub counted : n.headed ≡ true → length t.berth.call.accesses ≡ n.count
  pub accesses : n.accesses ≡ take (length n.accesses) t.berth.call.accesses

-- a note stays so, whatever the others do: where the frame is gone it says nothing
pub record IsSo (l : Layout) (lies : Lies) (ws : List ℕ) (n : Note) : Type 0 where
  pub inside : n.at < RECORDS * l.workers
  -- the record's word is of this frame or of a later one: no later publication lies there with this frame
  pub used : 0 < n.word → frame_floor (frame_in n.word) < word_at l ws (record_word n.at 0)
  pub says : 0 < n.word → (p : Path) (t : Lie) → lies p ≡ some t → is_gone t.stage ≡ false → t.berth.at ≡ n.at
      → t.berth.frame ≡ frame_in n.word → Says n t

-- the task's entry in the core, as the seat that runs it knows it
abbrev pub task_in : (j : Setup) → Execution → Task (machine_of j.program)
task_in j e = record { call = whole_at (map suc e.spot.path) e.spot.berth.call; phase = Running; answers = e.answers; done = e.done }

-- and an index's
abbrev pub index_task : (j : Setup) → IndexRun → Task (machine_of j.program)
index_task j e = record {
  call = record { path = map suc e.spot.path; job = Index e.spot.berth.call e.index };
  phase = Running;
  answers = e.answers;
  done = e.done;
}

-- what an entry of `running`, `halted` or `ran` says of its task
pub record Agrees (j : Setup) (e : Execution) (t : Lie) : Type 0 where
  pub berth : t.berth ≡ e.spot.berth
  pub answers : t.answers ≡ e.answers
  pub count : t.count ≡ e.done
  -- the indexes of a loop are its children, from its beginning on
  pub indexes : length t.indexes ≡ indexes_of e
  pub forks : forks_of j (task_of j e.spot.path t) ≡ e.forks + indexes_of e

-- how a task stands that a worker runs: as a loop that has begun, or not
abbrev pub runs_as : Bool → ℕ → Stage
runs_as false k = Runs k
runs_as true k = Loops k

-- its task is under way
abbrev pub IsUnderWay : (j : Setup) → Lies → Execution → Type 0
IsUnderWay j lies e = (t : Lie) × (lies e.spot.path ≡ some t) × Agrees j e t × ((k : ℕ) × (t.stage ≡ runs_as e.looping k))

-- its task is finished
abbrev pub IsOver : (j : Setup) → Lies → Execution → Type 0
IsOver j lies e = (t : Lie) × (lies e.spot.path ≡ some t) × Agrees j e t × (phase_of t.stage ≡ Finished)

abbrev pub IsKnownFinished : Lies → Path → Type 0
IsKnownFinished lies p = (t : Lie) × (lies p ≡ some t) × (phase_of t.stage ≡ Finished)

abbrev pub IsPublished : Lies → Spot → Type 0
IsPublished lies m = (t : Lie) × (lies m.path ≡ some t) × (t.berth ≡ m.berth)

abbrev pub IsGiven : Lies → Spot → Type 0
IsGiven lies m = (t : Lie) × (lies m.path ≡ some t) × (t.berth ≡ m.berth) × ((k : ℕ) × (t.stage ≡ Given k))

-- a task of the seat's own region, by position
abbrev pub IsOwn : Lies → ℕ → ℕ → Spot → Type 0
IsOwn lies seat a m =
    (m.berth.at ≡ own_record seat a) × ((t : Lie) × (lies m.path ≡ some t) × (t.berth ≡ m.berth) × (is_gone t.stage ≡ false))

-- later begun, higher number
abbrev pub Falls : ℕ → List Execution → Type 0
Falls top [] = Unit {0}
Falls top (e ∷ es) = (e.frame < top) × Falls e.frame es

-- what a live seat knows of its own region
pub record Owns (l : Layout) (lies : Lies) (ws : List ℕ) (seat : ℕ) (region : Region) (running : List Execution)
    (begun : ℕ) : Type 0 where
  pub room : length region.spots ≤ RECORDS
  pub spots : (a : ℕ) (m : Spot) → get_elem? region.spots a ≡ some m → IsOwn lies seat a m
  -- all tasks that lie there are among them
  pub under : (p : Path) (t : Lie) (a : ℕ) → lies p ≡ some t → is_gone t.stage ≡ false → a < RECORDS → t.berth.at ≡ own_record seat a
      → (m : Spot) × (get_elem? region.spots a ≡ some m) × (m.path ≡ p)
  -- the fields that are set in the next record
  pub built : length region.spots < RECORDS → (b : Stored) → In b region.built
      → (0 < b.field) × (b.field < FIELDS) × (word_at l ws (record_word (own_record seat (length region.spots)) b.field) ≡ b.word)
  -- there is room below for the frames of all that run
  pub stack : length (roots seat ++ frames running) ≤ length region.spots
  -- the children of a task that runs lie in its frame
  pub framed : (e : Execution) → In e running → (i : ℕ) (u : Lie) → lies (child e.spot.path i) ≡ some u → u.berth.frame ≡ e.frame
  pub falls : Falls (suc begun) running
  -- no word is of a frame that is to come; and behind the region none is of the frame of the running body, as long as it was begun last
  pub old : (a : ℕ) → a < RECORDS → word_at l ws (record_word (own_record seat a) 0) ≤ frame_floor (suc begun)
  pub low : (e : Execution) (es : List Execution) → running ≡ e ∷ es → e.frame ≡ begun → (a : ℕ)
      → length region.spots ≤ a → a < RECORDS → word_at l ws (record_word (own_record seat a) 0) ≤ frame_floor begun

-- what a seat's view says is so
pub record Fits (j : Setup) (lies : Lies) (ws : List ℕ) (seat : ℕ) (v : View) : Type 0 where
  pub setup : 0 < v.parts → v.setup ≡ Some j
  pub own : 0 < v.parts → v.worker ≡ seat
  pub owns : 0 < v.parts → Owns (layout_of j) lies ws seat v.region v.tasks.running v.tasks.begun
  pub running : (e : Execution) → In e v.tasks.running → IsUnderWay j lies e
  pub halted : (e : Execution) → In e v.tasks.halted → IsUnderWay j lies e
  pub ran : (e : Execution) → In e v.tasks.ran → IsOver j lies e
  -- each frame is that of a task which the seat has begun
  pub begun : v.tasks.begun ≤ length v.tasks.running + (length v.tasks.halted + length v.tasks.ran)
  pub mine : (m : Spot) → In m v.region.mine → IsPublished lies m
  pub given : (m : Spot) → In m v.tasks.given → IsGiven lies m
  pub known : (p : Path) → In p v.seen.known → IsKnownFinished lies p
  pub notes : (n : Note) → In n v.seen.notes → IsSo (layout_of j) lies ws n
  pub stop : v.seen.stop ≡ true → word_at (layout_of j) ws stop_at ≡ 1
  pub line : (m : Spot) → In m v.seen.line → IsPublished lies m

-- the lists of all seats together
pub record Counts (l : Layout) (lies : Lies) (views : List View) : Type 0 where
  pub parts : weigh (λ (v : View). v.parts) views ≡ l.workers
  pub mine : Tally mine_in is_there lies views
  pub claimed : Tally claimed_in is_claimed lies views
  pub given : Tally given_in is_given lies views
  pub begun : Tally begun_in is_begun lies views
  pub few : length views ≤ l.workers
  pub made : (seat : ℕ) (v : View) → get_elem? views seat ≡ some v → 0 < v.made → (seat ≡ 0) × (length views ≡ v.made)
  pub idle : (seat : ℕ) (v : View) → get_elem? views seat ≡ some v → v.parts ≡ 0 → v ≡ spent

-- THE DRAWN COUNT

-- 1 where the next operation of the task forks a task
abbrev pub waiting : Setup → Path → Option Lie → ℕ
waiting j p none = 0
waiting j p (some t) = next_weight (machine_of j.program) is_task (left (machine_of j.program) (task_of j p t))

-- the drawn count counts the tasks that were published and those that were drawn and are still to be published, each
-- for a fork that is next; and it goes over the limit once for each seat at most
pub record Drawn (j : Setup) (lies : Lies) (ws : List ℕ) (views : List View) : Type 0 where
  pub count : word_at (layout_of j) ws drawn_at ≡ weigh (λ (v : View). length v.region.mine + length v.draws.hands) views
  pub hands : (p : Path) → weigh (λ (v : View). drawn_in v p) views ≤ waiting j p (lies p)
  pub begun : (seat : ℕ) (v : View) → get_elem? views seat ≡ some v → (p : Path) → In p v.draws.hands → 0 < begun_in v p
  pub bound : word_at (layout_of j) ws drawn_at ≤ TASKS + weigh (λ (v : View). v.draws.over) views
  pub overs : (seat : ℕ) (v : View) → get_elem? views seat ≡ some v → v.draws.over ≤ v.parts
  -- what was drawn over the limit stays in hand
  pub held : (seat : ℕ) (v : View) → get_elem? views seat ≡ some v → v.draws.over ≤ length v.draws.hands
  pub crossed : (seat : ℕ) (v : View) → get_elem? views seat ≡ some v → 0 < v.draws.over → TASKS < word_at (layout_of j) ws drawn_at

-- THE COUNT OF POSITIONS

-- how many indexes the loop forks, where it has not begun and nothing else is next
abbrev pub waiting_indexes : Setup → Path → Option Lie → ℕ
waiting_indexes j p none = 0
waiting_indexes j p (some t) = forks_ahead (machine_of j.program) is_index (left (machine_of j.program) (task_of j p t))

-- the count of positions counts those of loops that have begun, and those that were drawn for loops that are about to begin
pub record Positions (j : Setup) (lies : Lies) (ws : List ℕ) (views : List View) : Type 0 where
  pub count : word_at (layout_of j) ws positions_at ≡ weigh positions_in views
  pub pending : (p : Path) → weigh (λ (v : View). pending_in v p) views ≤ waiting_indexes j p (lies p)
  pub begun : (seat : ℕ) (v : View) → get_elem? views seat ≡ some v → (x : Share) → In x v.loops.pending → 0 < begun_in v x.spot.path

-- THE STOP WORD: 0, or 1 once a count went over its limit

pub record Stopped (l : Layout) (ws : List ℕ) : Type 0 where
  pub word : (word_at l ws stop_at ≡ 0)
      ⊎ ((word_at l ws stop_at ≡ 1) × ((TASKS < word_at l ws drawn_at) ⊎ (INDEXES < word_at l ws positions_at)))
