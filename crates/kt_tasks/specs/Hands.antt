-- The tasks that a seat has in hand: those that it runs, those that it was given, and the loops of its pieces and indexes.
use Rattle.std.specs.Prelude.{◌≡◌, ℕ, suc, ◌*◌, ◌<◌, ◌⊎◌, List, map, Some}
use mathlib.Core.Option.{some}
use lib.ListN.{get_elem?}
use Rattle.atomic_table.specs.Table.{Step}
use Rattle.kt_law.specs.declared.accesses.Access.{Access}
use Rattle.kt_prog.specs.Calls.{CallTree}
use Rattle.kt_prog.specs.Fits.{Fits}
use Rattle.kt_words.specs.Places.{place, record_word}
use Rattle.kt_words.specs.Words.{IsHeadWord, IsAccess}
use Rattle.kt_words.specs.declared.layouts.TheConstants.{RECORDS, FIELDS}
use Rattle.kt_rule.specs.declared.views.Setup.{Setup}
use Rattle.kt_rule.specs.declared.views.Berth.{Berth}
use Rattle.kt_rule.specs.declared.views.Spot.{Spot}
use Rattle.kt_rule.specs.declared.views.Execution.{Execution}
use Rattle.kt_rule.specs.declared.views.Share.{Share}
use Rattle.kt_rule.specs.declared.views.IndexRun.{IndexRun}
use Rattle.kt_rule.specs.declared.views.View.{View}
use Rattle.kt_rule.specs.Lists.{In}
use Rattle.kt_rule.specs.Lies.{Lie}
use Rattle.kt_rule.specs.Records.{layout_of, head_of, task_field}
use Rattle.kt_rule.specs.Rule.{Slots}

-- the seat has positions of the loop in hand
abbrev pub IsLoopInHand : View → Spot → Type 0
IsLoopInHand v m = ((x : Share) × In x v.loops.pieces × (x.spot ≡ m)) ⊎ ((e : IndexRun) × In e v.loops.taken × (e.spot ≡ m))

-- the seat runs the task, or was given it, or has positions of it in hand
abbrev pub IsInHand : View → Spot → Type 0
IsInHand v m = In m v.tasks.given ⊎ (((e : Execution) × In e v.tasks.running × (e.spot ≡ m)) ⊎ IsLoopInHand v m)

-- and it lies in the record with this number
abbrev pub IsHeld : View → ℕ → Spot → Type 0
IsHeld v at m = IsInHand v m × (m.berth.at ≡ at)

-- it is the call of the task in hand, and a call that the program may make
abbrev pub IsCallIn : View → ℕ → CallTree → Type 0
IsCallIn v at call = ((m : Spot) → IsHeld v at m → call ≡ m.berth.call)
    × ((j : Setup) → v.setup ≡ Some j → Fits j.program call)

abbrev pub IsNumberIn : View → ℕ → ℕ → Type 0
IsNumberIn v at number = (m : Spot) → IsHeld v at m → number ≡ m.berth.number

-- the numbers of a program's paths are counted from 1, those of a view from 0
abbrev pub IsPathIn : View → ℕ → List ℕ → Type 0
IsPathIn v at path = (m : Spot) → IsHeld v at m → path ≡ map suc m.path

-- what the word of a field says of a task with this berth
pub record IsFieldOf (b : Berth) (field n : ℕ) : Type 0 where
  pub task : Lie
  pub berth : task.berth ≡ b
  pub says : (x : ℕ) → task_field task field ≡ some x → n ≡ x
  pub head : IsHeadWord (head_of task)
  pub accesses : (k : ℕ) (a : Access) → get_elem? b.call.accesses k ≡ some a → IsAccess a

-- the program may make the calls of all tasks in hand
abbrev pub AreFitting : View → Type 0
AreFitting v = (m : Spot) → IsInHand v m → (j : Setup) → v.setup ≡ Some j → Fits j.program m.berth.call

-- the word that was found in this field of this record is that of whichever task in hand lies there
pub record HasFields (v : View) (at field n : ℕ) : Type 0 where
  pub says : (m : Spot) → IsHeld v at m → IsFieldOf m.berth field n
  pub fits : AreFitting v

abbrev pub LooksHeld : Step Slots → View → ℕ → View → Type 0
LooksHeld st v n w = ((j : Setup) → v.setup ≡ Some j → (at field : ℕ) → at < RECORDS * j.workers → field < FIELDS
    → st.word ≡ place (layout_of j) (record_word at field) → HasFields v at field n) × (w ≡ v)
