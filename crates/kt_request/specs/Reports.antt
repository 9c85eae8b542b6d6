-- The report of a call of `serve`: what it found, claimed and answered, by what the seat's view holds of this call.
use Rattle.std.specs.Prelude.{◌≡◌, ℕ, suc, ◌+◌, ◌-◌, ◌≤◌, ◌⊎◌, ◌*◌, ◌==◌, false, cond, List, [], ◌∷◌, ◌++◌, length, take, Option, Some, None}
use Rattle.kt_words.specs.Words.{packed_post}
use Rattle.kt_words.specs.declared.posts.Post.TheVariants as P
use Rattle.kt_words.specs.declared.layouts.TheConstants.{RECORDS}
use Rattle.kt_words.specs.declared.pairs.Pair.{Pair}
use Rattle.kt_runs.specs.ByPath.{Path}
use Rattle.kt_ready.specs.declared.verdicts.Seen.{Seen}
use Rattle.kt_ready.specs.Contents.{Contents}
use Rattle.kt_rule.specs.declared.seats.Seat.{Seat}
use Rattle.kt_rule.specs.declared.views.View.{View}
use Rattle.kt_rule.specs.declared.views.Note.{Note}
use Rattle.kt_rule.specs.declared.views.Found.{Found}
use Rattle.kt_rule.specs.Steps.{note_of}
use Rattle.kt_loops.specs.declared.splits.Divided.{Divided}
use Rattle.kt_loops.specs.declared.splits.Divided.TheVariants as D
use Rattle.kt_loops.specs.Calls.{HasSplit}
use Rattle.kt_posts.specs.declared.answers.Answer.{Answer}
use Rattle.kt_posts.specs.declared.answers.Answer.TheVariants as A
use Rattle.kt_posts.specs.Told.{IsPostWord}
use Rattle.kt_request.specs.declared.served.Served.{Served}
use Rattle.kt_request.specs.Notes.{InRow, Noted, ready_records}

-- the seat is of the same table and of the same worker, and holds the same slots of it
abbrev pub IsSameSeat : Seat → Seat → Type 0
IsSameSeat s s' = (s'.token.table_id ≡ s.token.table_id) × (s'.token.me.1 ≡ s.token.me.1) × (s'.worker ≡ s.worker)

-- the posts of the workers from this one on were looked at in order, each once
abbrev pub InOrder : ℕ → List Found → Type 0
InOrder k [] = Unit {0}
InOrder k (f ∷ fs) = (f.worker ≡ k) × IsPostWord f.word × InOrder (suc k) fs

-- the workers that were found posted at the victim
abbrev pub posted_at : ℕ → List Found → List ℕ
posted_at victim [] = []
posted_at victim (f ∷ fs) = cond (f.word == packed_post (P.Posted victim)) (f.worker ∷ posted_at victim fs) (posted_at victim fs)

-- the records of the ready entries that were not lost, the first ones of as many as there are held thieves
abbrev pub given_to : List ℕ → List Seen → List ℕ
given_to held seen = take (length held) (ready_records seen)

-- the record of the loop that was split, and the pieces in rising order; none where no split was tried or none was got
abbrev pub split_record : Option Divided → ℕ
split_record (Some (D.Got at pieces)) = at
split_record cut = 0

abbrev pub split_pieces : Option Divided → List Pair
split_pieces (Some (D.Got at pieces)) = pieces.items
split_pieces cut = []

-- the i-th held thief is given the i-th of these records; those left are given the pieces of the loop in the record `at`, in order; and
-- the rest get nothing
abbrev pub deal : List ℕ → List ℕ → ℕ → List Pair → List Answer
deal [] given at pieces = []
deal (k ∷ held) (a ∷ given) at pieces = A.Task a ∷ deal held given at pieces
deal (k ∷ held) [] at (x ∷ pieces) = A.Piece at x ∷ deal held [] at pieces
deal (k ∷ held) [] at [] = A.Failed ∷ deal held [] at []

-- No split was tried where no thief was left without a task. Else one was, of the victim's interval and for as many parts as thieves were
-- left, and this is what it answered. The word that it found there stands behind those that were found in posts.
abbrev pub HasCut : ℕ → View → List Found → ℕ → View → Option Divided → Type 0
HasCut victim v found left w None = (left ≡ 0) × (w.desk.found ≡ v.desk.found ++ found)
HasCut victim v found left w (Some answer) = (1 ≤ left) × ((before after : View) × (before.setup ≡ v.setup) × (before.loops ≡ v.loops)
    × (before.desk.found ≡ v.desk.found ++ found) × HasSplit victim before left after answer × (w.desk.found ≡ after.desk.found))

-- What one call of `serve` found and answered. What is of this call is what the view holds behind what it held before:
-- the words found at the holds, and the notes of the scan that the call began.
pub record Reports (workers victim : ℕ) (v w : View) (scan : Contents) (s : Served) : Type 0 where
  -- the workers were looked at in order, one word was found of each, and those are held that were found posted at the victim
  pub found : List Found
  pub in_order : InOrder 0 found
  pub all : length found ≡ workers
  pub held : s.held.items ≡ posted_at victim found
  -- the notes go through the victim's records from the first one on without a gap, and each has its verdict
  pub notes : List Note
  pub row : InRow (RECORDS * victim) notes
  pub noted : Noted notes scan.notes
  -- the region ends with the last of them, or the record behind it was found without a task
  pub ends : ((length notes ≡ RECORDS) × (w.seen.notes ≡ notes)) ⊎ (w.seen.notes ≡ note_of (RECORDS * victim + length notes) 0 ∷ notes)
  -- where thieves were left without a task, the victim's interval was split for them
  pub cut : HasCut victim v found (length s.held.items - length (given_to s.held.items scan.notes)) w s.cut
  -- the i-th held thief gets the i-th ready entry that was not lost, those for whom there is none get the pieces of the split, and those
  -- after the last piece get nothing
  pub answers : s.answers.items ≡ deal s.held.items (given_to s.held.items scan.notes) (split_record s.cut) (split_pieces s.cut)
  -- the lead is given up, which stored 0 in the victim's request word
  pub released : w.desk.leads ≡ false

-- what was known finished and claimed is so still
pub record Extends (v w : View) : Type 0 where
  pub known : (more : List Path) × (w.seen.known ≡ more ++ v.seen.known)
  pub claimed : (more : List Path) × (w.tasks.claimed ≡ v.tasks.claimed ++ more)

-- and nothing else of the view changed: not the seat's own post, nor what it runs and was given, nor the pieces in hand
pub record ServedOnly (v w : View) : Type 0 where
  pub same : w ≡ record v {
    seen = record v.seen { notes = w.seen.notes; known = w.seen.known };
    tasks = record v.tasks { claimed = w.tasks.claimed; promised = [] };
    desk = record v.desk { leads = false; held = []; found = w.desk.found; wrote = [] };
    loops = record v.loops { sight = w.loops.sight };
  }
  pub extends : Extends v w
