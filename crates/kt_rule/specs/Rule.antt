-- The rule of a run: what holds of its words and of the views of its seats between any two atomic steps.
--
-- THE PROTOCOL. The workers of a run share one table of words. Each has a seat at it; a seat's view is what this worker
-- knows, and only its own steps change it. A step reads or changes one word. So the whole protocol is: who may change
-- which word when, and what makes it sure that nobody else can.
--
--   a record's state word
--       published Unclaimed by the owner of the region, once: the record is the first free one of its own region;
--       claimed by anybody, by one exchange from Unclaimed: an exchange finds Unclaimed only once;
--       Running and later Finished by the worker in whose hand the task is: the path of a claimed task stands once among
--       the promised, posted, given and begun tasks of all seats, so it is in one hand
--   a record's other words
--       by the owner of the region before it publishes the record: the record is free
--   an element
--       by the worker whose body does it as its next act: any number of bodies may at once, since the rights of calls
--       make the order of their acts indifferent
--   the count of drawn tasks
--       by anybody who is about to fork, by one more: a fetch loses nothing
--   the stop word
--       by anybody whose draw went over the limit: it never becomes 0 again
--   a worker's request word
--       by whoever leads the requests at this worker: an exchange from 0, and 0 again by the same
--   a worker's post word
--       by this worker while it is Idle or holds an answer, by a leader at the victim while it is Posted or Held: the
--       word says whose turn it is
--
-- A RECORD'S LIFE. Free; its fields are written; Unclaimed by the store that publishes it; then either Running by the
-- exchange of its owner, which goes in order, or Given by the exchange of a leader for a thief, which has scanned the
-- frame; Running by the thief's store; Finished by the store of whoever runs it.
--
-- WHAT IS SHOWN. With the ghost function `lies` (where each task lies and how it stands) words and views are a core of
-- a run, and this core is lawful: so it ends in the reference run, whoever did what. The function is no choice: `Shown`
-- computes the core from words and views alone. A kind of step is allowed where the rule holds afterwards; the crate of
-- the steps proves this once for each kind, and which event of a run the step is.
--
-- A VIEW IS OF USE only for what stays so whatever the others do. Each fact of a view below is kept by every step of
-- every other seat: tasks finish and stay finished; a task in hand is in no other hand; a note speaks of the frame that
-- its state word names, and where that frame is gone of nothing.
use Rattle.std.specs.Prelude.{◌≡◌, ℕ, ◌*◌, ◌<◌, ◌≤◌, ◌⊎◌, false, List, [], ◌∷◌, length}
use mathlib.Core.Option.{some}
use lib.ListN.{get_elem?}
use Rattle.atomic_table.specs.Table.{State}
use Rattle.kt_order.specs.Laws.{Laws}
use Rattle.kt_prog.specs.Accepted.{IsAccepted}
use Rattle.kt_prog.specs.Reference.{machine_of}
use Rattle.kt_runs.specs.Rights.{rights_in}
use Rattle.kt_words.specs.Places.{record_word}
use Rattle.kt_words.specs.declared.layouts.TheConstants.{RECORDS}
use Rattle.kt_rule.specs.declared.views.Setup.{Setup}
use Rattle.kt_rule.specs.declared.views.View.{View}
use Rattle.kt_rule.specs.Lies.{Lie, Lies, Cored, is_gone}
use Rattle.kt_rule.specs.Records.{layout_of, word_at, elements}
use Rattle.kt_rule.specs.Views.{main_berth, blank_view}
use Rattle.kt_rule.specs.Facts.{Words, Fits, Counts, Drawn, Positions, Stopped}
use Rattle.kt_rule.specs.Requests.{Asked}
use Rattle.kt_rule.specs.LoopWords.{loop_words, hands_of}
use Rattle.kt_rule.specs.LoopFacts.{Looped}

-- the table's values are no use to a run
abbrev pub Slots : Type 0
Slots = Unit {0}

pub record Facts (j : Setup) (lies : Lies) (s : State Slots View) : Type 0 where
  pub crew : j.workers ≤ 8
  -- the program is accepted, and meets the laws of the theory
  pub accepted : IsAccepted j.program
  pub laws : Laws (machine_of j.program) (rights_in j.program)
  pub core : Cored j lies (elements (layout_of j) s.words)
  pub words : Words (layout_of j) lies s.words
  pub root : (t : Lie) × (lies [] ≡ some t) × (t.berth ≡ main_berth) × (is_gone t.stage ≡ false)
  pub counts : Counts (layout_of j) lies s.views
  pub asked : Asked (layout_of j) lies s.words s.views
  pub drawn : Drawn j lies s.words s.views
  pub positions : Positions j lies s.words s.views
  pub stopped : Stopped (layout_of j) s.words
  pub looped : Looped j.workers lies (loop_words (layout_of j) s.words) (hands_of s.views)
  pub fits : (seat : ℕ) (v : View) → get_elem? s.views seat ≡ some v → Fits j lies s.words seat v
  -- regions that no seat has yet are empty
  pub unmade : (a : ℕ) → RECORDS * length s.views ≤ a → a < RECORDS * j.workers → word_at (layout_of j) s.words (record_word a 0) ≡ 0

-- the rule holds in a run of this setup
abbrev pub IsRuled : Setup → State Slots View → Type 0
IsRuled j s = (lies : Lies) × Facts j lies s

-- before the setup is told the words are those of the opening
unfoldable pub Holds : List ℕ → State Slots View → Type 0
Holds opening s = ((s.words ≡ opening) × (s.views ≡ blank_view ∷ [])) ⊎ ((j : Setup) × IsRuled j s)
