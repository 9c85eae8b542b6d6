-- What the notes of a scan in the view of a seat say of frames, and how those that `Scan` gives go with them. The notes of
-- a view stand newest first. Nothing here depends on when the loads were made.
use Rattle.std.specs.Prelude.{◌≡◌, ◌≢◌, ℕ, ◌+◌, ◌/◌, ◌%◌, ◌^◌, ◌⊎◌, ◌==◌, ◌&&◌, ◌||◌, nat_le, Bool, true, false, cond, if◌then◌else◌, List, [], ◌∷◌, ◌++◌, length}
use Rattle.kt_law.specs.declared.stands.Stand.{Stand}
use Rattle.kt_law.specs.declared.stands.Stand.TheVariants as S
use Rattle.kt_words.specs.Words.{packed_state, IsStateWord}
use Rattle.kt_words.specs.declared.states.StateWord.{StateWord}
use Rattle.kt_ready.specs.declared.verdicts.Seen.{Seen}
use Rattle.kt_ready.specs.declared.verdicts.Verdict.{Verdict}
use Rattle.kt_ready.specs.declared.verdicts.Verdict.TheVariants as V
use Rattle.kt_ready.specs.Verdicts.{Entry, IsVerdict}
use Rattle.kt_ready.specs.Contents.{Contents, HasFrame}
use Rattle.kt_rule.specs.declared.views.Note.{Note}
use Rattle.kt_rule.specs.Records.{stand_in, fork_in, frame_in}
use Rattle.kt_rule.specs.Steps.{IsFound}

-- the stand that a state word says
unfoldable pub worker_in : ℕ → ℕ
worker_in word = word / 2 ^ 3 % 2 ^ 3

abbrev pub stand_with : ℕ → ℕ → Stand
stand_with number worker = if number == 1 then S.Unclaimed else (if number == 2 then S.Given worker
    else (if number == 3 then S.Running worker else (if number == 4 then S.Finished else S.Empty)))

abbrev pub stand_said : ℕ → Stand
stand_said word = stand_with (stand_in word) (worker_in word)

-- a state word of some task
abbrev pub IsStanding : ℕ → Type 0
IsStanding word = (x : StateWord) × IsStateWord x × (x.stand ≢ S.Empty) × (word ≡ packed_state x)

-- an entry is taken into its frame as the first one, or as the next one behind a record that was taken with the word `last`
abbrev pub taken_by : ℕ → ℕ → Bool
taken_by last word = nat_le (fork_in word) 1 || ((frame_in last == frame_in word) && (fork_in last + 1 == fork_in word))

-- the word of the newest note where it was taken, and else 0
abbrev pub last_word : List Note → ℕ
last_word [] = 0
last_word (n ∷ ns) = cond (taken_by (last_word ns) n.word) n.word 0

-- what was found of an entry
abbrev pub entry : Note → Entry
entry n = record { stand = stand_said n.word; accesses = n.accesses }

-- the entries of the frame that the notes end with, oldest first; none where the newest note was not taken
abbrev pub frame : List Note → List Entry
frame [] = []
frame (n ∷ ns) = cond (taken_by (last_word ns) n.word) (cond (nat_le (fork_in n.word) 1) [] (frame ns) ++ entry n ∷ []) []

-- those before this note, where it is taken
abbrev pub before : Note → List Note → List Entry
before n ns = cond (nat_le (fork_in n.word) 1) [] (frame ns)

-- an entry that is not finished has its accesses found
abbrev pub IsTold : Note → Type 0
IsTold n = (stand_said n.word ≡ S.Finished) ⊎ IsFound n

-- the note is of an entry that was taken and told, and as it was noted this is the verdict on it
pub record IsTaken (n : Note) (ns : List Note) (verdict : Verdict) : Type 0 where
  pub taken : taken_by (last_word ns) n.word ≡ true
  pub told : IsTold n
  pub is : IsVerdict (before n ns) (entry n) verdict

-- a claim of it was lost, which found another state
pub record IsLost (n : Note) (found : Stand) : Type 0 where
  pub lost : n.lost ≡ true
  pub other : n.other ≢ n.word
  pub says : (x : StateWord) × IsStateWord x × (n.other ≡ packed_state x)
  pub stand : found ≡ stand_said n.other

-- the verdict that a note of a scan has: Cut where it was not taken, Lost in place of Ready where a claim was lost
abbrev pub HasVerdict : Note → List Note → Verdict → Type 0
HasVerdict n ns (V.Lost found) = IsTaken n ns V.Ready × IsLost n found
HasVerdict n ns V.Cut = (taken_by (last_word ns) n.word ≡ false) × (n.lost ≡ false)
HasVerdict n ns verdict = IsTaken n ns verdict × (n.lost ≡ false)

-- the notes of a scan, oldest first, are those of the view: each has its record, the stand that was found, and its verdict
abbrev pub Noted : List Note → List Seen → Type 0
Noted [] seen = seen ≡ []
Noted (n ∷ ns) seen = (earlier : List Seen) × (last : Seen) × (seen ≡ earlier ++ last ∷ []) × Noted ns earlier
    × (last.at ≡ n.at) × (last.stand ≡ stand_said n.word) × IsStanding n.word × HasVerdict n ns last.verdict

-- a scan has the notes, and the frame that they end with
pub record HasScan (ns : List Note) (scan : Contents) : Type 0 where
  pub noted : Noted ns scan.notes
  pub frame_is : HasFrame scan (frame ns)

-- the notes are of one record after another, from this one on
abbrev pub InRow : ℕ → List Note → Type 0
InRow first [] = Unit {0}
InRow first (n ∷ ns) = (n.at ≡ first + length ns) × InRow first ns

abbrev pub is_ready : Verdict → Bool
is_ready V.Ready = true
is_ready _ = false

-- the records of the ready entries, in order
abbrev pub ready_records : List Seen → List ℕ
ready_records [] = []
ready_records (s ∷ ss) = cond (is_ready s.verdict) (s.at ∷ ready_records ss) (ready_records ss)
