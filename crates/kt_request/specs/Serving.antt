-- How far a call of `serve` is: in its holds, in its scan, in its split and in its answers. For private calls and proofs.
use Rattle.std.specs.Prelude.{slice_index, Option, Some, None, ◌≡◌, ◌≢◌, ℕ, ◌+◌, ◌-◌, ◌<◌, ◌≤◌, ◌⊎◌, Bool, true, false, List, [], ◌∷◌, ◌++◌, length, take, drop}
use Rattle.kt_words.specs.Words.{packed_post, packed_state, IsStateWord}
use Rattle.kt_words.specs.declared.posts.Post.TheVariants as P
use Rattle.kt_words.specs.declared.states.StateWord.{StateWord}
use Rattle.kt_words.specs.declared.layouts.TheConstants.{RECORDS}
use Rattle.kt_words.specs.declared.pairs.Pair.{Pair}
use Rattle.kt_split.specs.Splits.{Fill}
use Rattle.kt_loops.specs.declared.splits.Divided.{Divided}
use Rattle.kt_loops.specs.Calls.{HasSplit}
use Rattle.kt_ready.specs.declared.verdicts.Seen.{Seen}
use Rattle.kt_ready.specs.Contents.{Contents, HasFrame}
use Rattle.kt_rule.specs.declared.views.View.{View}
use Rattle.kt_rule.specs.declared.views.Note.{Note}
use Rattle.kt_rule.specs.declared.views.Promise.{Promise}
use Rattle.kt_rule.specs.declared.views.Share.{Share}
use Rattle.kt_rule.specs.Lists.{In}
use Rattle.kt_rule.specs.Steps.{IsFound, note_of, with_note, won_for}
use Rattle.kt_posts.specs.Desks.{holds_one, looks_at, pair_of}
use Rattle.kt_posts.specs.Told.{IsPostWord}
use Rattle.kt_request.specs.Notes.{stand_said, IsStanding, last_word, frame, IsTaken, Noted, HasScan, InRow, is_ready, ready_records}
use Rattle.kt_request.specs.Reports.{Extends}
use Rattle.kt_ready.specs.declared.verdicts.Verdict.TheVariants as V

-- HOLDS

-- the request of worker k was found posted at the victim and is held, or another word was found
abbrev pub HeldInto : (victim k n : ℕ) → View → View → List ℕ → List ℕ → Type 0
HeldInto victim k n v w held held' = IsPostWord n
    × (((n ≡ packed_post (P.Posted victim)) × (w ≡ holds_one v k n) × (held' ≡ held ++ k ∷ []))
    ⊎ ((n ≢ packed_post (P.Posted victim)) × (w ≡ looks_at v k n) × (held' ≡ held)))

-- each is less than all after it
abbrev pub Rising : List ℕ → Type 0
Rising [] = Unit {0}
Rising (x ∷ xs) = ((y : ℕ) → In y xs → x < y) × Rising xs

-- THE SCAN

-- the note of a record, of which no claim was made
abbrev pub NoteOf : Note → ℕ → ℕ → Type 0
NoteOf n at word = (n.at ≡ at) × (n.word ≡ word) × (n.lost ≡ false)

-- the entry may be claimed
abbrev pub IsClaimable : Note → List Note → Type 0
IsClaimable n ns = IsTaken n ns V.Ready × IsFound n × (n.lost ≡ false)

-- one record more was noted; whether it was ready
abbrev pub Saw : View → View → List Note → Contents → Contents → (at word : ℕ) → Bool → Type 0
Saw v w ns scan scan' at word ready = (n : Note) × (s : Seen) × NoteOf n at word × (w ≡ with_note v n ns) × HasScan (n ∷ ns) scan'
    × (scan'.notes ≡ scan.notes ++ s ∷ []) × (s.at ≡ at) × (s.stand ≡ stand_said word) × (is_ready s.verdict ≡ ready)
    × (ready ≡ true → IsClaimable n ns)

-- the last entry is to be claimed
pub record Claims (v : View) (scan : Contents) (first : ℕ) (ns : List Note) (n : Note) (earlier : List Seen) (last : Seen)
    (at word : ℕ) : Type 0 where
  pub notes : v.seen.notes ≡ n ∷ ns
  pub note : NoteOf n at word
  pub standing : IsStanding word
  pub ready : IsClaimable n ns
  pub row : InRow first (n ∷ ns)
  pub noted : Noted ns earlier
  pub frame_is : HasFrame scan (frame (n ∷ ns))
  pub seen : scan.notes ≡ earlier ++ last ∷ []
  pub last_at : last.at ≡ at
  pub last_stand : last.stand ≡ stand_said word
  pub last_ready : is_ready last.verdict ≡ true

-- it was won for the thief, or it is noted how it was found
abbrev pub Claimed : View → View → Contents → Contents → List Note → List Seen → (at word thief : ℕ) → Bool → Type 0
Claimed v w scan scan' ns earlier at word thief true =
    (m : Promise) × (m.spot.berth.at ≡ at) × (m.thief ≡ thief) × (w ≡ won_for v m) × (scan' ≡ scan)
Claimed v w scan scan' ns earlier at word thief false = (n : Note) × (s : Seen) × (n.at ≡ at) × (n.word ≡ word)
    × (w ≡ with_note v n ns) × HasScan (n ∷ ns) scan' × (scan'.notes ≡ earlier ++ s ∷ []) × (is_ready s.verdict ≡ false)

-- the promises are of the claimed records to the held thieves, in their order
pub record Promised (held given : List ℕ) (promised : List Promise) : Type 0 where
  pub each : (i : ℕ) → i < length given
      → (m : Promise) × In m promised × (m.thief ≡ slice_index held i) × (m.spot.berth.at ≡ slice_index given i)
  pub no_more : (m : Promise) → In m promised → (i : ℕ) × (i < length given) × (m.spot.berth.at ≡ slice_index given i)

-- a scan changes the notes, what is known finished, and what is claimed
pub record ScansOnly (v w : View) : Type 0 where
  pub same : w ≡ record v {
    seen = record v.seen { notes = w.seen.notes; known = w.seen.known };
    tasks = record v.tasks { claimed = w.tasks.claimed; promised = w.tasks.promised };
  }
  pub extends : Extends v w

-- the notes so far; the ready ones among them were claimed for the held thieves, as many as there are
pub record Scanned (first : ℕ) (held : List ℕ) (v0 : View) (ns : List Note) (v : View) (scan : Contents) (given : List ℕ) : Type 0 where
  pub notes : (ns ≡ []) ⊎ (v.seen.notes ≡ ns)
  pub row : InRow first ns
  pub scan_is : HasScan ns scan
  pub given_is : given ≡ take (length held) (ready_records scan.notes)
  pub promised : Promised held given v.tasks.promised
  pub only : ScansOnly v0 v

-- the entry that was just noted Ready was claimed for the first thief that had none, if there was one
abbrev pub Dealt : View → View → Contents → List Note → (held given' : List ℕ) → (at word : ℕ) → Type 0
Dealt v w scan' ns held given' at word = (n : Note) × (n.at ≡ at) × (n.word ≡ word) × (w.seen.notes ≡ n ∷ ns) × HasScan (n ∷ ns) scan'
    × (given' ≡ take (length held) (ready_records scan'.notes)) × Promised held given' w.tasks.promised × ScansOnly v w

-- the state of the record that the notes end with, where it was taken, and else an empty one
abbrev pub IsLast : StateWord → List Note → Type 0
IsLast last ns = IsStateWord last × (packed_state last ≡ last_word ns)

-- a turn of the scan: the record was without a task, or one more was noted
abbrev pub Turned : ℕ → List ℕ → View → List Note → View → Contents → Contents → List ℕ → List ℕ → ℕ → Option StateWord → Type 0
Turned first held v0 ns w scan scan' given given' at None = (w.seen.notes ≡ note_of at 0 ∷ ns) × ScansOnly v0 w
    × Promised held given' w.tasks.promised × (scan' ≡ scan) × (given' ≡ given)
Turned first held v0 ns w scan scan' given given' at (Some last) = (n : Note) × Scanned first held v0 (n ∷ ns) w scan' given' × IsLast last (n ∷ ns)

-- a scan at its end: the region ends with the last note, or the record behind it was found without a task
pub record Ended (first : ℕ) (held : List ℕ) (v0 : View) (ns : List Note) (v : View) (scan : Contents) (given : List ℕ) : Type 0 where
  pub row : InRow first ns
  pub scan_is : HasScan ns scan
  pub given_is : given ≡ take (length held) (ready_records scan.notes)
  pub promised : Promised held given v.tasks.promised
  pub only : ScansOnly v0 v
  pub most : length ns ≤ RECORDS
  pub ends : ((length ns ≡ RECORDS) × (v.seen.notes ≡ ns)) ⊎ (v.seen.notes ≡ note_of (first + length ns) 0 ∷ ns)

-- THE SPLIT

-- it was tried where thieves are left
abbrev pub HasSplitFor : ℕ → View → ℕ → View → Option Divided → Type 0
HasSplitFor victim v left w None = (left ≡ 0) × (w ≡ v)
HasSplitFor victim v left w (Some answer) = (1 ≤ left) × HasSplit victim v left w answer

-- a split changes what was found, the pieces in hand and the sight
abbrev pub SplitsOnly : View → View → Type 0
SplitsOnly v w = w ≡ record v {
  desk = record v.desk { found = w.desk.found };
  loops = record v.loops { pieces = w.loops.pieces; sight = w.loops.sight };
}

-- shares of the loop in this record, from where to where these pieces go
abbrev pub AreShares : ℕ → List Share → List Pair → Type 0
AreShares at [] [] = Unit {0}
AreShares at (x ∷ xs) (p ∷ ps) = (x.spot.berth.at ≡ at) × (pair_of x ≡ p) × AreShares at xs ps
AreShares at xs ps = ⊥

-- the pieces lie side by side, and none of the other shares begins among them
pub record AreApart (pieces : List Pair) (others : List Share) : Type 0 where
  pub from : ℕ
  pub to : ℕ
  pub fill : Fill from pieces to
  pub apart : (x : Share) → In x others → (x.low < from) ⊎ (to ≤ x.low)

-- ANSWERS

-- the view but for what it knows of a lead, for promises and for pieces in hand
abbrev pub LeadsOn : View → View → Type 0
LeadsOn v w = w ≡ record v {
  tasks = record v.tasks { promised = w.tasks.promised };
  desk = record v.desk { held = w.desk.held; wrote = w.desk.wrote };
  loops = record v.loops { pieces = w.loops.pieces };
}

-- the first i held thieves are answered; the promises left are those to the others, and the pieces in hand are those left and others
pub record Answering (held given : List ℕ) (at : ℕ) (pieces : List Pair) (others : List Share) (v0 : View) (i : ℕ) (v : View) : Type 0 where
  pub desk : v.desk.held ≡ drop i held
  pub each : (j : ℕ) → i ≤ j → j < length given
      → (m : Promise) × In m v.tasks.promised × (m.thief ≡ slice_index held j) × (m.spot.berth.at ≡ slice_index given j)
  pub no_more : (m : Promise) → In m v.tasks.promised
      → (j : ℕ) × (i ≤ j) × (j < length given) × (m.spot.berth.at ≡ slice_index given j)
  pub hand : (xs : List Share) × AreShares at xs (drop (i - length given) pieces) × (v.loops.pieces ≡ xs ++ others)
  pub apart : AreApart pieces others
  pub few : length given + length pieces ≤ length held
  pub same : LeadsOn v0 v
