-- What the loads of a scan tell of the record that was looked at last, and its note with all accesses found.
use Rattle.std.specs.Prelude.{◌≡◌, ◌≤◌, ◌<◌, ℕ, true, false, List, ◌∷◌, length, Some}
use Rattle.atomic_table.specs.Table.{Step}
use Rattle.kt_law.specs.declared.accesses.Access.{Access}
use Rattle.kt_words.specs.Words.{IsAccess}
use Rattle.kt_rule.specs.declared.views.Setup.{Setup}
use Rattle.kt_rule.specs.declared.views.Note.{Note}
use Rattle.kt_rule.specs.declared.views.View.{View}
use Rattle.kt_rule.specs.Records.{layout_of}
use Rattle.kt_rule.specs.Rule.{Slots}
use Rattle.kt_rule.specs.Steps.{note_of, ScansHead, ScansAccess}

-- the seat's last look was at the record with this number, and found this word
abbrev pub IsLookedAt : View → ℕ → ℕ → List Note → Type 0
IsLookedAt v at word ns = v.seen.notes ≡ note_of at word ∷ ns

-- its note once all its accesses are found
abbrev pub found_of : ℕ → ℕ → List Access → Note
found_of at word accesses = record {
  at = at;
  word = word;
  headed = true;
  count = length accesses;
  accesses = accesses;
  lost = false;
  other = 0;
}

-- the access lies among so many objects
pub record IsAmong (objects : ℕ) (a : Access) : Type 0 where
  pub fits : IsAccess a
  pub below : a.hi ≤ objects

-- the newest note is of the record with this number, its head was loaded, and so many of its accesses, but not all
pub record IsCounted (v : View) (at found : ℕ) : Type 0 where
  pub own : Note
  pub rest : List Note
  pub notes : v.seen.notes ≡ own ∷ rest
  pub lies : own.at ≡ at
  pub headed : own.headed ≡ true
  pub few : own.count ≤ 8
  pub found_is : length own.accesses ≡ found
  pub more : found < own.count

-- the head of the newest note's record was loaded
abbrev pub ScansHeadAt : Step Slots → View → ℕ → View → Type 0
ScansHeadAt st v n w = (o : Note) (ns : List Note) → v.seen.notes ≡ o ∷ ns → ScansHead o ns st v n w

-- and its next access
abbrev pub ScansAccessAt : Step Slots → View → ℕ → View → Type 0
ScansAccessAt st v n w = (j : Setup) → v.setup ≡ Some j → (o : Note) (ns : List Note) → v.seen.notes ≡ o ∷ ns
    → ScansAccess (layout_of j) o ns st v n w
