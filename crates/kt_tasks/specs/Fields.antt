-- The fields of a seat's next record while they are written, and the store that publishes it.
use Rattle.std.specs.Prelude.{◌≡◌, ℕ, suc, ◌*◌, ◌^◌, ◌<◌, ◌≤◌, List, [], ◌∷◌, length, Some}
use mathlib.Core.Option.{some}
use lib.ListN.{get_elem?}
use Rattle.atomic_table.specs.Table.{Step}
use Rattle.kt_law.specs.declared.accesses.Access.{Access}
use Rattle.kt_order.specs.Body.{Fork}
use Rattle.kt_order.specs.Machine.{Code}
use Rattle.kt_order.specs.Rest.{left}
use Rattle.kt_prog.specs.Calls.{CallTree, Whole}
use Rattle.kt_prog.specs.Reference.{Placed, machine_of}
use Rattle.kt_words.specs.Places.{place, record_word}
use Rattle.kt_words.specs.Words.{IsAccess}
use Rattle.kt_words.specs.declared.layouts.TheConstants.{RECORDS, FIELDS}
use Rattle.kt_words.specs.declared.layouts.Layout.{Layout}
use Rattle.kt_rule.specs.declared.views.Setup.{Setup}
use Rattle.kt_rule.specs.declared.views.Berth.{Berth}
use Rattle.kt_rule.specs.declared.views.Execution.{Execution}
use Rattle.kt_rule.specs.declared.views.Stored.{Stored}
use Rattle.kt_rule.specs.declared.views.View.{View}
use Rattle.kt_rule.specs.Lists.{In}
use Rattle.kt_rule.specs.Records.{layout_of}
use Rattle.kt_rule.specs.Facts.{task_in}
use Rattle.kt_rule.specs.Rule.{Slots}
use Rattle.kt_rule.specs.Steps.{next_of, builds, published, IsBehind, IsBerth, IsBuilt}
use Rattle.kt_steps.specs.Told.{IsLiveOf}

-- the seat's next record is this one, and there is room for it
pub record IsNext (l : Layout) (worker : ℕ) (v : View) (at : ℕ) : Type 0 where
  pub live : IsLiveOf l worker v
  pub free : at ≡ next_of v
  pub room : length v.region.spots < RECORDS
  pub inside : at < RECORDS * l.workers

-- no field from this one on is set
abbrev pub AreClear : ℕ → View → Type 0
AreClear from v = (b : Stored) → In b v.region.built → b.field < from

-- fields were set, and nothing else of the view changed
pub record HasFilled (v w : View) : Type 0 where
  pub same : w ≡ record v { region = record v.region { built = w.region.built } }
  pub kept : (b : Stored) → In b v.region.built → In b w.region.built

-- the numbers of a call fit the words of a record in this layout
pub record IsWritable (l : Layout) (number : ℕ) (call : CallTree) : Type 0 where
  pub task : call.task < 2 ^ 16
  pub depth : call.depth < 2 ^ 6
  pub number_fits : number < 2 ^ 26
  pub accesses : (k : ℕ) (a : Access) → get_elem? call.accesses k ≡ some a → IsAccess a × (a.hi ≤ l.objects)

-- all fields were set that say of a new task with this parent, number and call what there is to say
pub record HasWritten (v : View) (parent number : ℕ) (call : CallTree) (w : View) : Type 0 where
  pub filled : HasFilled v w
  pub built : (b : Berth) → b.parent ≡ suc parent → b.number ≡ number → b.call ≡ call → IsBuilt w.region.built b

-- whichever field of the next record stands at the word was set
abbrev pub SetsField : Step Slots → View → ℕ → View → Type 0
SetsField st v n w = (j : Setup) → v.setup ≡ Some j → (f : ℕ) → f < FIELDS
    → st.word ≡ place (layout_of j) (record_word (next_of v) f) → w ≡ builds v f st.first

-- the next record is a child's that the running body forks next
pub record MayAnnounce (v : View) (b : Berth) : Type 0 where
  pub setup : Setup
  pub told : v.setup ≡ Some setup
  pub head : Execution
  pub rest : List Execution
  pub runs : v.tasks.running ≡ head ∷ rest
  pub forks : Placed
  pub more : Code (machine_of setup.program)
  pub next : left (machine_of setup.program) (task_in setup head) ≡ Fork forks more
  pub calls : forks.job ≡ Whole b.call
  pub framed : b.frame ≡ head.frame
  pub topmost : head.frame ≡ v.tasks.begun
  pub numbered : b.fork ≡ suc head.forks
  pub parent : b.parent ≡ suc head.spot.berth.at
  pub behind : IsBehind v head
  pub fits : IsBerth b
  pub built : IsBuilt v.region.built b
  pub drawn : v.draws.hands ≡ head.spot.path ∷ []
  pub within : v.draws.over ≡ 0

-- the child of the running body that lies so is published
abbrev pub PublishesAs : Berth → Step Slots → View → ℕ → View → Type 0
PublishesAs b st v n w = (e : Execution) (rest : List Execution) → v.tasks.running ≡ e ∷ rest → w ≡ published v e rest b
