-- The seats of a pool: what they know when they are handed out, and what must still be so of them when they come back.
use Rattle.std.specs.Prelude.{◌≡◌, ℕ, zero, suc, ◌<◌, List, [], ◌∷◌, length, slice_get, Some}
use Rattle.kt_prog.specs.declared.programs.Program.{Program}
use Rattle.kt_rule.specs.declared.seats.Seat.{Seat}
use Rattle.kt_rule.specs.declared.tables.RunTable.{RunTable}
use Rattle.kt_rule.specs.declared.views.Setup.{Setup}
use Rattle.kt_rule.specs.declared.views.View.{View}
use Rattle.kt_rule.specs.Close.{first_view, newcomer, together}
use Rattle.kt_rule.specs.Records.{layout_of}
use Rattle.kt_rule.specs.Views.{blank_view}
use Rattle.kt_pool.specs.declared.pools.Pool.{Pool}

abbrev pub setup_of : Program → List ℕ → ℕ → Setup
setup_of program input workers = record { program = program; input = input; workers = workers }

-- the table of a pool
abbrev pub run_table : Pool → RunTable
run_table p = p.table

-- worker 0 made the seats of all others
abbrev pub made_by : Setup → ℕ → ℕ
made_by j zero = j.workers
made_by j (suc k) = 0

-- what the seat of a worker knows before its first step: worker 0 that main waits in its region, and the others nothing
abbrev pub view_at_start : Setup → ℕ → View
view_at_start j zero = record (first_view j) { parts = 1; made = j.workers }
view_at_start j (suc k) = record (newcomer (first_view j)) { worker = suc k }

-- it is the seat of this worker at this table: what no step of the seat changes
pub record IsSeatOf (j : Setup) (t : RunTable) (k : ℕ) (s : Seat) : Type 0 where
  pub table : s.token.table_id ≡ t.table.shared.table_id
  pub layout : layout_of j ≡ t.layout
  pub slots : s.token.me.1 ≡ []
  pub number : s.worker ≡ k
  pub told : s.token.me.0.setup ≡ Some j
  pub worker : s.token.me.0.worker ≡ k
  pub parts : s.token.me.0.parts ≡ 1
  pub made : s.token.me.0.made ≡ made_by j k

-- these are all seats of the table, in the order of their workers
pub record AreSeatsOf (j : Setup) (t : RunTable) (seats : List Seat) : Type 0 where
  pub count : length seats ≡ j.workers
  pub some : 0 < j.workers
  pub each : (k : ℕ) (s : Seat) → slice_get seats k ≡ Some s → IsSeatOf j t k s

-- and none of them has made a step
abbrev pub HaveNotStepped : Setup → List Seat → Type 0
HaveNotStepped j seats = (k : ℕ) (s : Seat) → slice_get seats k ≡ Some s → (s.token.me.0 ≡ view_at_start j k) × (s.word ≡ 0)

-- one seat takes in others, one after another
abbrev pub taken_in : View → List Seat → View
taken_in v [] = v
taken_in v (s ∷ seats) = taken_in (together v s.token.me.0) seats

-- what all seats together know: the lists of all of them
abbrev pub all_together : List Seat → View
all_together [] = blank_view
all_together (s ∷ seats) = taken_in s.token.me.0 seats
