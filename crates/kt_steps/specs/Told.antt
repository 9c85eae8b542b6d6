-- What the steps of the calls tell, in words that name no seat's lists but those of its view.
use Rattle.std.specs.Prelude.{◌≡◌, ◌≢◌, ◌<◌, ◌*◌, ℕ, List, ◌∷◌, Option, Some, false}
use mathlib.Core.Option.{some}
use lib.ListN.{get_elem?}
use Rattle.atomic_table.specs.Table.{Step}
use Rattle.kt_law.specs.Acts.{Act, Deed}
use Rattle.kt_law.specs.declared.stands.Stand.{Stand}
use Rattle.kt_law.specs.declared.stands.Stand.TheVariants as S
use Rattle.kt_order.specs.Body.{Do, Stop}
use Rattle.kt_order.specs.Machine.{Code}
use Rattle.kt_order.specs.Rest.{standing, left}
use Rattle.kt_order.specs.Stand.{Standing}
use Rattle.kt_prog.specs.Script.{Fault}
use Rattle.kt_prog.specs.Reference.{machine_of}
use Rattle.kt_prog.specs.Store.{place_of}
use Rattle.kt_runs.specs.ByPath.{child}
use Rattle.kt_words.specs.declared.layouts.TheConstants.{RECORDS}
use Rattle.kt_words.specs.declared.layouts.Layout.{Layout}
use Rattle.kt_words.specs.declared.states.StateWord.{StateWord}
use Rattle.kt_words.specs.Words.{IsStateWord, packed_state}
use Rattle.kt_rule.specs.declared.views.Setup.{Setup}
use Rattle.kt_rule.specs.declared.views.Spot.{Spot}
use Rattle.kt_rule.specs.declared.views.Execution.{Execution}
use Rattle.kt_rule.specs.declared.views.Promise.{Promise}
use Rattle.kt_rule.specs.declared.views.Note.{Note}
use Rattle.kt_rule.specs.declared.views.View.{View}
use Rattle.kt_rule.specs.Lists.{In}
use Rattle.kt_rule.specs.Records.{layout_of}
use Rattle.kt_rule.specs.Facts.{task_in}
use Rattle.kt_rule.specs.Rule.{Slots}
use Rattle.kt_rule.specs.Steps.{state_place, state_word, IsState, ClaimsOwn, ClaimsFor, IsFound, IsReady, starts_own, starts, ends, does_one, Stands}

-- the view of a seat that stands for somebody, in a run with this layout, of this worker
pub record IsLiveOf (l : Layout) (worker : ℕ) (v : View) : Type 0 where
  pub setup : Setup
  pub told : v.setup ≡ Some setup
  pub layout : layout_of setup ≡ l
  pub live : 0 < v.parts
  pub own : worker ≡ v.worker

-- a record of the seat's own region stands at the word
abbrev pub IsOwnAt : Step Slots → View → Spot → Type 0
IsOwnAt st v m = (j : Setup) × (v.setup ≡ Some j) × ((a : ℕ) × (get_elem? v.region.spots a ≡ some m))
    × (st.word ≡ state_place (layout_of j) m.berth.at)

-- whichever it is, its task's state was found
abbrev pub ShowsOwn : Step Slots → View → ℕ → View → Type 0
ShowsOwn st v n w = ((m : Spot) → IsOwnAt st v m → (b : Stand) × IsState m.berth b × (b ≢ S.Empty) × (n ≡ state_word m.berth b)) × (w ≡ v)

-- and it was claimed, or another state was found
abbrev pub ClaimsOwnAt : Step Slots → View → ℕ → View → Type 0
ClaimsOwnAt st v n w = (m : Spot) → IsOwnAt st v m → ClaimsOwn m st v n w

-- the entry that was noted last was claimed for the worker that the new word names, or another word was found
abbrev pub ClaimsForAt : Step Slots → View → ℕ → View → Type 0
ClaimsForAt st v n w = (own : Note) (ns : List Note) → v.seen.notes ≡ own ∷ ns → (x : StateWord) → IsStateWord x → st.second ≡ packed_state x
    → (thief : ℕ) → x.stand ≡ S.Given thief → ClaimsFor own ns thief st v n w

-- the entry of the record with this number was noted last, unclaimed in this state, and by the notes it is ready
pub record IsNotedReady (v : View) (at : ℕ) (x : StateWord) : Type 0 where
  pub own : Note
  pub rest : List Note
  pub notes : v.seen.notes ≡ own ∷ rest
  pub lies : own.at ≡ at
  pub found : IsFound own
  pub ready : IsReady v own
  pub fits : IsStateWord x
  pub waits : x.stand ≡ S.Unclaimed
  pub word : own.word ≡ packed_state x

-- the state of the first promised task was found
abbrev pub ShowsPromised : Step Slots → View → ℕ → View → Type 0
ShowsPromised st v n w = ((m : Promise) (rest : List Promise) → v.tasks.promised ≡ m ∷ rest
    → (b : Stand) × IsState m.spot.berth b × (b ≢ S.Empty) × (n ≡ state_word m.spot.berth b)) × (w ≡ v)

-- it was begun
abbrev pub StartsOwnAt : Step Slots → View → ℕ → View → Type 0
StartsOwnAt st v n w = (m : Promise) (rest : List Promise) → v.tasks.promised ≡ m ∷ rest → w ≡ starts_own v m.spot rest

-- the state of the first given task was found
abbrev pub ShowsGiven : Step Slots → View → ℕ → View → Type 0
ShowsGiven st v n w = ((m : Spot) (rest : List Spot) → v.tasks.given ≡ m ∷ rest
    → (b : Stand) × IsState m.berth b × (b ≢ S.Empty) × (n ≡ state_word m.berth b)) × (w ≡ v)

-- it was begun
abbrev pub StartsGivenAt : Step Slots → View → ℕ → View → Type 0
StartsGivenAt st v n w = (m : Spot) (rest : List Spot) → v.tasks.given ≡ m ∷ rest → w ≡ starts v m rest

-- the state of the running body's task was found
abbrev pub ShowsRunning : Step Slots → View → ℕ → View → Type 0
ShowsRunning st v n w = ((e : Execution) (rest : List Execution) → v.tasks.running ≡ e ∷ rest
    → (b : Stand) × IsState e.spot.berth b × (b ≢ S.Empty) × (n ≡ state_word e.spot.berth b)) × (w ≡ v)

-- it was finished
abbrev pub EndsAt : Step Slots → View → ℕ → View → Type 0
EndsAt st v n w = (e : Execution) (rest : List Execution) → v.tasks.running ≡ e ∷ rest → w ≡ ends v e rest

-- the running body did its next operation, an act, where this number was found
abbrev pub DidNext : View → ℕ → View → Type 0
DidNext v n w = (j : Setup) → v.setup ≡ Some j → (e : Execution) (rest : List Execution) → v.tasks.running ≡ e ∷ rest
    → (d : Act) (k : ℕ → Code (machine_of j.program)) → left (machine_of j.program) (task_in j e) ≡ Do d k → w ≡ does_one v d n e rest

abbrev pub DoesNext : Step Slots → View → ℕ → View → Type 0
DoesNext st v n w = DidNext v n w

-- whichever record stands at the word was looked at
abbrev pub StandsAt : Step Slots → View → ℕ → View → Type 0
StandsAt st v n w = (j : Setup) → v.setup ≡ Some j → (a : ℕ) → a < RECORDS * j.workers → st.word ≡ state_place (layout_of j) a
    → Stands a st v n w

-- this deed on the element with this number is the next operation of the running body
pub record IsDueOn (v : View) (element : ℕ) (deed : Deed) : Type 0 where
  pub setup : Setup
  pub told : v.setup ≡ Some setup
  pub head : Execution
  pub rest : List Execution
  pub runs : v.tasks.running ≡ head ∷ rest
  pub act : Act
  pub does : act.deed ≡ deed
  pub place : place_of setup.program.families act ≡ element
  pub more : ℕ → Code (machine_of setup.program)
  pub next : left (machine_of setup.program) (task_in setup head) ≡ Do act more

-- the task of the seat's own record with this number
abbrev pub IsMine : View → ℕ → Spot → Type 0
IsMine v at m = (a : ℕ) × (get_elem? v.region.spots a ≡ some m) × (m.berth.at ≡ at)

-- the running body is of the record with this number, its end or a fault is its next operation, and its children are known finished
pub record IsEnded (v : View) (at : ℕ) : Type 0 where
  pub setup : Setup
  pub told : v.setup ≡ Some setup
  pub head : Execution
  pub rest : List Execution
  pub runs : v.tasks.running ≡ head ∷ rest
  pub lies : head.spot.berth.at ≡ at
  pub st : Standing (machine_of setup.program)
  pub stands : standing (machine_of setup.program) (task_in setup head) ≡ Some st
  pub still : st.over ≡ false
  pub fault : Option Fault
  pub next : left (machine_of setup.program) (task_in setup head) ≡ Stop fault
  pub children : (k : ℕ) → k < head.forks → In (child head.spot.path k) v.seen.known
