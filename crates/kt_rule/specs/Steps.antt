-- What a seat knows after a step of each kind, and the conditions under which it may make it. `begun_by`, `over` and
-- their like say what becomes of one entry of a list; `won_own`, `starts` and their like of the whole view;
-- `ClaimsOwn`, `Starts` and their like what the step tells, with the word that it found.
use Rattle.std.specs.Prelude.{◌≡◌, ◌≢◌, ℕ, suc, ◌+◌, ◌%◌, ◌<◌, ◌≤◌, ◌⊎◌, ◌==◌, ◌&&◌, not, true, false, cond, List, [], ◌∷◌, ◌++◌, length, MatchBool}
use mathlib.Core.Option.{some}
use lib.ListN.{get_elem?}
use Rattle.atomic_table.specs.Table.{Me, Step}
use Rattle.kt_law.specs.Acts.{Act}
use Rattle.kt_law.specs.Accesses.{clash_between}
use Rattle.kt_law.specs.declared.limits.TheConstants.{TASKS}
use Rattle.kt_law.specs.declared.accesses.Access.{Access}
use Rattle.kt_law.specs.declared.stands.Stand.{Stand}
use Rattle.kt_law.specs.declared.stands.Stand.TheVariants as S
use Rattle.kt_rights.specs.Acts.{is_load}
use Rattle.kt_runs.specs.ByPath.{Path, child}
use Rattle.kt_words.specs.Places.{place, record_word}
use Rattle.kt_words.specs.Words.{packed_state, packed_head, packed_access, IsStateWord, IsHeadWord, IsAccess}
use Rattle.kt_words.specs.declared.layouts.TheConstants.{RECORDS, FIELDS}
use Rattle.kt_words.specs.declared.layouts.Layout.{Layout}
use Rattle.kt_words.specs.declared.heads.HeadWord.{HeadWord}
use Rattle.kt_rule.specs.declared.views.Berth.{Berth}
use Rattle.kt_rule.specs.declared.views.Spot.{Spot}
use Rattle.kt_rule.specs.declared.views.Execution.{Execution}
use Rattle.kt_rule.specs.declared.views.Promise.{Promise}
use Rattle.kt_rule.specs.declared.views.Note.{Note}
use Rattle.kt_rule.specs.declared.views.Stored.{Stored}
use Rattle.kt_rule.specs.declared.views.Tasks.{Tasks}
use Rattle.kt_rule.specs.declared.views.View.{View}
use Rattle.kt_rule.specs.Lists.{In}
use Rattle.kt_rule.specs.Lies.{Lie, Waits}
use Rattle.kt_rule.specs.Records.{head_of, later_field, own_record, stand_in, fork_in, frame_in}
use Rattle.kt_rule.specs.Facts.{IsHeadAt, IsAccessAt}
use Rattle.kt_rule.specs.Rule.{Slots}

-- the step leaves the slots alone
abbrev pub Tells : (Step Slots → View → ℕ → View → Type 0) → Step Slots → Me Slots View → ℕ → Me Slots View → Type 0
Tells told st me n me' = told st me.0 n me'.0 × (me'.1 ≡ me.1)

-- the place of a record's state word
abbrev pub state_place : Layout → ℕ → ℕ
state_place l a = place l (record_word a 0)

-- the state word of a task that lies there
abbrev pub state_word : Berth → Stand → ℕ
state_word b stand = packed_state (record { frame = b.frame; fork = b.fork; stand = stand })

-- the number with which the frames of its children would be packed fits, and so do its other numbers
abbrev pub IsState : Berth → Stand → Type 0
IsState b stand = IsStateWord (record { frame = b.frame; fork = b.fork; stand = stand })

-- CLAIMS

-- a task begun, of which nothing is done: its children's frame is a new one
abbrev pub begun_by : Tasks → Spot → Execution
begun_by tasks m = record { spot = m; frame = suc tasks.begun; answers = []; done = 0; forks = 0; looping = false; bumped = []; looked = [] }

abbrev pub with_begun : Tasks → Spot → Tasks
with_begun tasks m = record tasks { running = begun_by tasks m ∷ tasks.running; begun = suc tasks.begun }

abbrev pub with_claimed : Tasks → Path → Tasks
with_claimed tasks p = record tasks { claimed = tasks.claimed ++ p ∷ [] }

abbrev pub won_own : View → Spot → View
won_own v m = record v { tasks = with_begun (with_claimed v.tasks m.path) m }

-- all earlier siblings are known to be finished
abbrev pub BeforeKnown : View → Path → Type 0
BeforeKnown v p = (q : Path) (k : ℕ) → p ≡ child q k → (i : ℕ) → i < k → In (child q i) v.seen.known

-- a claim of the seat's own record: where it is lost, another stand was found, of the same task
abbrev pub ClaimsOwn : Spot → Step Slots → View → ℕ → View → Type 0
ClaimsOwn m st v n w = MatchBool (n == st.first)
    (w ≡ won_own v m)
    (((b : Stand) × IsState m.berth b × (b ≢ S.Empty) × (n ≡ state_word m.berth b)) × (w ≡ v))

-- all accesses of the entry were found
pub record IsFound (n : Note) : Type 0 where
  pub headed : n.headed ≡ true
  pub all : length n.accesses ≡ n.count

-- a scan's entry does not hinder one with these accesses
abbrev pub LetsPass : List Access → Note → Type 0
LetsPass accesses n = (stand_in n.word ≡ 4) ⊎ (IsFound n × (clash_between n.accesses accesses ≡ false))

-- by its notes the scan may give the entry away: it noted each earlier entry of the frame, and none of them hinders it
abbrev pub IsReady : View → Note → Type 0
IsReady v own = (i : ℕ) → suc i < fork_in own.word
    → (n : Note) × In n v.seen.notes × (n.at + fork_in own.word ≡ own.at + suc i) × (0 < n.word) × (frame_in n.word ≡ frame_in own.word)
    × LetsPass own.accesses n

abbrev pub won_for : View → Promise → View
won_for v g = record v { tasks = record (with_claimed v.tasks g.spot.path) { promised = g ∷ v.tasks.promised } }

-- the newest note is of a claim that was lost
abbrev pub lost_one : View → Note → List Note → ℕ → View
lost_one v own ns n = record v { seen = record v.seen { notes = record own { lost = true; other = n } ∷ ns } }

-- a claim for a thief of the entry that was noted last
abbrev pub ClaimsFor : Note → List Note → ℕ → Step Slots → View → ℕ → View → Type 0
ClaimsFor own ns thief st v n w = MatchBool (n == st.first)
    ((g : Spot) × (g.berth.at ≡ own.at) × IsState g.berth S.Unclaimed × (state_word g.berth S.Unclaimed ≡ own.word)
    × (w ≡ won_for v (record { spot = g; thief = thief })))
    (w ≡ lost_one v own ns n)

-- the first of the promised tasks, which the seat claimed for itself, is begun
abbrev pub starts_own : View → Spot → List Promise → View
starts_own v m rest = record v { tasks = with_begun (record v.tasks { promised = rest }) m }

abbrev pub StartsOwn : Spot → List Promise → Step Slots → View → ℕ → View → Type 0
StartsOwn m rest st v n w = w ≡ starts_own v m rest

-- the first of the tasks that it was given is begun
abbrev pub starts : View → Spot → List Spot → View
starts v m rest = record v { tasks = with_begun (record v.tasks { given = rest }) m }

abbrev pub Starts : Spot → List Spot → Step Slots → View → ℕ → View → Type 0
Starts m rest st v n w = w ≡ starts v m rest

-- the running body did its last operation, and its task is finished
abbrev pub over : Execution → Execution
over e = record e { done = suc e.done }

abbrev pub ends : View → Execution → List Execution → View
ends v e rest = record v {
  tasks = record v.tasks { running = rest; ran = over e ∷ v.tasks.ran };
  seen = record v.seen { known = e.spot.path ∷ v.seen.known };
}

abbrev pub Ends : Execution → List Execution → Step Slots → View → ℕ → View → Type 0
Ends e rest st v n w = w ≡ ends v e rest

-- ELEMENTS

-- the running body did this with one element, where this word was found
abbrev pub heard : Act → ℕ → List ℕ
heard d n = cond (is_load d.deed) (n ∷ []) []

abbrev pub did_one : Act → ℕ → Execution → Execution
did_one d n e = record e { answers = e.answers ++ heard d n; done = suc e.done }

abbrev pub does_one : View → Act → ℕ → Execution → List Execution → View
does_one v d n e rest = record v { tasks = record v.tasks { running = did_one d n e ∷ rest } }

abbrev pub Does : Act → Execution → List Execution → Step Slots → View → ℕ → View → Type 0
Does d e rest st v n w = w ≡ does_one v d n e rest

-- PUBLICATIONS

-- a task number is drawn for the next fork of the running body; where the count is over the limit, the seat draws no more
abbrev pub draws_one : View → Execution → ℕ → View
draws_one v e over = record v { draws = record { hands = e.spot.path ∷ []; over = over } }

abbrev pub Draws : Execution → Step Slots → View → ℕ → View → Type 0
Draws e st v n w = ((suc n ≤ TASKS) × (w ≡ draws_one v e 0)) ⊎ ((TASKS < suc n) × (w ≡ draws_one v e 1))

-- the first free record of the seat's region
abbrev pub next_of : View → ℕ
next_of v = own_record v.worker (length v.region.spots)

-- what may be set in a field: a packed head, a packed access, or any word elsewhere
abbrev pub MaySet : Layout → ℕ → ℕ → Type 0
MaySet l f n = (f ≡ 1 → IsHeadAt n) × ((k : ℕ) → k < 8 → f ≡ 13 + k → IsAccessAt l.objects n)

-- a field of the next record is set
abbrev pub builds : View → ℕ → ℕ → View
builds v f n = record v { region = record v.region { built = record { field = f; word = n } ∷ v.region.built } }

abbrev pub Builds : ℕ → Step Slots → View → ℕ → View → Type 0
Builds f st v n w = w ≡ builds v f st.first

-- a task that is just published
abbrev pub new_lie : Berth → Lie
new_lie b = record { berth = b; stage = Waits; first = 0; unretired = b.call.length; indexes = []; pieces = []; answers = []; count = 0 }

-- the numbers of a berth fit its words
pub record IsBerth (b : Berth) : Type 0 where
  pub state : IsState b S.Unclaimed
  pub head : IsHeadWord (head_of (new_lie b))
  pub accesses : (k : ℕ) (a : Access) → get_elem? b.call.accesses k ≡ some a → IsAccess a

-- the fields of the next record say all of a new task but its state
abbrev pub IsBuilt : List Stored → Berth → Type 0
IsBuilt built b = (f x : ℕ) → suc f < FIELDS → later_field (new_lie b) f ≡ some x → In (record { field = suc f; word = x }) built

-- the running body forked one child more
abbrev pub forked_one : Execution → Execution
forked_one e = record e { done = suc e.done; forks = suc e.forks }

abbrev pub published : View → Execution → List Execution → Berth → View
published v e rest b = record v {
  region = record {
    spots = v.region.spots ++ record { berth = b; path = child e.spot.path e.forks } ∷ [];
    mine = record { berth = b; path = child e.spot.path e.forks } ∷ v.region.mine;
    built = [];
  };
  tasks = record v.tasks { running = forked_one e ∷ rest };
  draws = record v.draws { hands = [] };
}

-- its frame has no records yet, or the last one of the region is of its last child
abbrev pub IsBehind : View → Execution → Type 0
IsBehind v e = (e.forks ≡ 0)
    ⊎ ((k : ℕ) × (a : ℕ) × (m : Spot) × (e.forks ≡ suc k) × (length v.region.spots ≡ suc a) × (get_elem? v.region.spots a ≡ some m)
    × (m.path ≡ child e.spot.path k))

abbrev pub Publishes : Execution → List Execution → Berth → Step Slots → View → ℕ → View → Type 0
Publishes e rest b st v n w = w ≡ published v e rest b

-- LOADS

-- the notes so far, where a scan goes on with this record; the first record of a region begins a scan
abbrev pub going : ℕ → List Note → List Note
going a [] = []
going a (m ∷ ms) = cond (not (a % RECORDS == 0) && (suc m.at == a)) (m ∷ ms) []

abbrev pub note_of : ℕ → ℕ → Note
note_of a n = record { at = a; word = n; headed = false; count = 0; accesses = []; lost = false; other = 0 }

-- the tasks that the seat knows to lie in the record: those of its own region, and main in record 0
abbrev pub paths_at : ℕ → List Spot → List Path
paths_at a [] = []
paths_at a (m ∷ ms) = cond (m.berth.at == a) (m.path ∷ paths_at a ms) (paths_at a ms)

abbrev pub learnt : View → ℕ → List Path
learnt v a = cond (a == 0) ([] ∷ []) [] ++ paths_at a v.region.spots

-- a load of a state word: the record is noted, and where a task is found finished of which the seat knows that it lies
-- there, it knows that
abbrev pub stands : View → ℕ → ℕ → View
stands v a n = record v {
  seen = record v.seen {
    notes = note_of a n ∷ going a v.seen.notes;
    known = cond (stand_in n == 4) (learnt v a) [] ++ v.seen.known;
  };
}

abbrev pub Stands : ℕ → Step Slots → View → ℕ → View → Type 0
Stands a st v n w = ((n ≡ 0) ⊎ ((x : _) × IsStateWord x × (x.stand ≢ S.Empty) × (n ≡ packed_state x))) × (w ≡ stands v a n)

-- a scan's load of the head of the record that was noted last
abbrev pub headed_so : Note → HeadWord → Note
headed_so o h = record o { headed = true; count = h.accesses }

abbrev pub with_note : View → Note → List Note → View
with_note v o ns = record v { seen = record v.seen { notes = o ∷ ns } }

abbrev pub ScansHead : Note → List Note → Step Slots → View → ℕ → View → Type 0
ScansHead o ns st v n w = (h : HeadWord) × IsHeadWord h × (n ≡ packed_head h) × (w ≡ with_note v (headed_so o h) ns)

-- and of its next access
abbrev pub found_so : Note → Access → Note
found_so o a = record o { accesses = o.accesses ++ a ∷ [] }

abbrev pub ScansAccess : Layout → Note → List Note → Step Slots → View → ℕ → View → Type 0
ScansAccess l o ns st v n w =
    (a : Access) × IsAccess a × (a.hi ≤ l.objects) × (n ≡ packed_access a) × (w ≡ with_note v (found_so o a) ns)

-- a load of a word that the seat knows
abbrev pub Shows : ℕ → Step Slots → View → ℕ → View → Type 0
Shows x st v n w = (n ≡ x) × (w ≡ v)

-- THE STOP WORD

abbrev pub knows_stop : View → View
knows_stop v = record v { seen = record v.seen { stop = true } }

abbrev pub LoadsStop : Step Slots → View → ℕ → View → Type 0
LoadsStop st v n w = ((n ≡ 0) × (w ≡ v)) ⊎ ((n ≡ 1) × (w ≡ knows_stop v))

abbrev pub StoresStop : Step Slots → View → ℕ → View → Type 0
StoresStop st v n w = w ≡ knows_stop v

-- a load of the state word of a task that the seat knows to lie there
abbrev pub ShowsState : Berth → Step Slots → View → ℕ → View → Type 0
ShowsState b st v n w = ((stand : Stand) × IsState b stand × (stand ≢ S.Empty) × (n ≡ state_word b stand)) × (w ≡ v)
