-- What the words of a run say of a task.
use Rattle.std.specs.Prelude.{ℕ, zero, suc, ◌+◌, ◌-◌, ◌*◌, ◌/◌, ◌%◌, ◌^◌, cond, nat_lt, List, length, take, drop, slice_index}
use mathlib.Core.Option.{Option, none, some}
use lib.ListN.{get_elem?}
use Rattle.kt_law.specs.declared.accesses.Access.{Access}
use Rattle.kt_prog.specs.Calls.{CallTree}
use Rattle.kt_prog.specs.Objects.{objects_of, elements_of}
use Rattle.kt_words.specs.Places.{Place, place, first_element, shared_word, tasks_drawn, positions_drawn, stop}
use Rattle.kt_words.specs.Words.{packed_state, packed_head, packed_pair, packed_access}
use Rattle.kt_words.specs.declared.layouts.TheConstants.{RECORDS}
use Rattle.kt_words.specs.declared.layouts.Layout.{Layout}
use Rattle.kt_words.specs.declared.states.StateWord.{StateWord}
use Rattle.kt_words.specs.declared.heads.HeadWord.{HeadWord}
use Rattle.kt_rule.specs.declared.views.Setup.{Setup}
use Rattle.kt_rule.specs.Lies.{Lie, stand_of, is_gone}

abbrev pub layout_of : Setup → Layout
layout_of j = record { workers = j.workers; objects = objects_of j.program.families; elements = elements_of j.program.families }

-- the word at a place
abbrev pub word_at : Layout → List ℕ → Place → ℕ
word_at l ws q = slice_index ws (place l q)

-- the element words
abbrev pub elements : Layout → List ℕ → List ℕ
elements l ws = take l.elements (drop (first_element l) ws)

abbrev pub drawn_at : Place
drawn_at = shared_word tasks_drawn

abbrev pub positions_at : Place
positions_at = shared_word positions_drawn

abbrev pub stop_at : Place
stop_at = shared_word stop

-- the number of a record of a seat's own region
abbrev pub own_record : ℕ → ℕ → ℕ
own_record seat a = RECORDS * seat + a

abbrev pub state_of : Lie → StateWord
state_of t = record { frame = t.berth.frame; fork = t.berth.fork; stand = stand_of t.stage }

abbrev pub head_of : Lie → HeadWord
head_of t = record {
  task = t.berth.call.task;
  depth = t.berth.call.depth;
  number = t.berth.number;
  ints = length t.berth.call.ints;
  accesses = length t.berth.call.accesses;
}

abbrev pub access_word : Option Access → Option ℕ
access_word none = none
access_word (some a) = some (packed_access a)

-- the ints, and behind them the accesses; no field means anything where the call has none
abbrev pub argument_of : CallTree → ℕ → Option ℕ
argument_of c k = cond (nat_lt k 8) (get_elem? c.ints k) (access_word (get_elem? c.accesses (k - 8)))

-- the fields of a record from 1 on
abbrev pub later_field : Lie → ℕ → Option ℕ
later_field t zero = some (packed_head (head_of t))
later_field t (suc zero) = some t.berth.parent
later_field t (suc (suc zero)) = some (packed_pair (record { low = t.berth.call.length; high = t.first }))
later_field t (suc (suc (suc zero))) = some t.unretired
later_field t (suc (suc (suc (suc k)))) = argument_of t.berth.call k

-- the word of each field of a task's record
abbrev pub task_field : Lie → ℕ → Option ℕ
task_field t zero = some (packed_state (state_of t))
task_field t (suc f) = later_field t f

-- nothing is said of a record that may be another task's
abbrev pub field_of : Lie → ℕ → Option ℕ
field_of t f = cond (is_gone t.stage) none (task_field t f)

-- the parts of a state word: the number of its stand, its fork, and its frame
unfoldable pub stand_in : ℕ → ℕ
stand_in word = word % 2 ^ 3

unfoldable pub fork_in : ℕ → ℕ
fork_in word = word / 2 ^ 6 % 2 ^ 17

unfoldable pub frame_in : ℕ → ℕ
frame_in word = word / 2 ^ 23

-- the state words of this frame and of later ones are above it
unfoldable pub frame_floor : ℕ → ℕ
frame_floor frame = 2 ^ 23 * frame
