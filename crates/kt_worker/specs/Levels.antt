-- The frames that a worker has under way, and how its seat stands between two turns.
use Rattle.std.specs.Prelude.{◌≡◌, ◌≤◌, ◌<◌, ◌⊎◌, ℕ, suc, ◌+◌, ◌*◌, List, [], ◌∷◌, length, Bool, true, false, Option, Some, None}
use mathlib.Core.Option.{some}
use lib.ListN.{get_elem?}
use Rattle.kt_law.specs.declared.limits.TheConstants.{WORKERS}
use Rattle.kt_body.specs.declared.ops.Ended.{Ended}
use Rattle.kt_body.specs.declared.ops.Ended.TheVariants as E
use Rattle.kt_order.specs.Rest.{left}
use Rattle.kt_order.specs.Shown.{fault_of}
use Rattle.kt_prog.specs.Operations.{is_loop_at}
use Rattle.kt_prog.specs.Reference.{machine_of}
use Rattle.kt_prog.specs.Runs.{FaultRun}
use Rattle.kt_prog.specs.declared.programs.Program.{Program}
use Rattle.kt_runs.specs.ByPath.{Path, child}
use Rattle.kt_words.specs.declared.layouts.TheConstants.{RECORDS}
use Rattle.kt_rule.specs.declared.views.Draws.{Draws}
use Rattle.kt_rule.specs.declared.views.Execution.{Execution}
use Rattle.kt_rule.specs.declared.views.IndexRun.{IndexRun}
use Rattle.kt_rule.specs.declared.views.Promise.{Promise}
use Rattle.kt_rule.specs.declared.views.Setup.{Setup}
use Rattle.kt_rule.specs.declared.views.Share.{Share}
use Rattle.kt_rule.specs.declared.views.Spot.{Spot}
use Rattle.kt_rule.specs.declared.views.Stored.{Stored}
use Rattle.kt_rule.specs.declared.views.View.{View}
use Rattle.kt_rule.specs.Lists.{In}
use Rattle.kt_rule.specs.Views.{blank_view, no_draws}
use Rattle.kt_tasks.specs.Claims.{AreFew}
use Rattle.kt_loops.specs.Operations.{IsLoopEmptied}
use Rattle.kt_calls.specs.Ranges.{IsRecord}
use Rattle.kt_intervals.specs.Indexes.{fault_with}
use Rattle.kt_worker.specs.Faults.{IsLeast, task_of}
use Rattle.kt_worker.specs.Hands.{HasChildren, IsAtEnd, base_of}
use Rattle.kt_worker.specs.declared.stacks.Level.{Level}
use Rattle.kt_worker.specs.declared.tallies.Tally.{Tally}

-- what never changes of a seat's view
abbrev pub kin : View → View
kin v = record blank_view { setup = v.setup; worker = v.worker; parts = v.parts; made = v.made }

-- a later view of the same seat: its records and what it knew are there still
pub record Extends (v w : View) : Type 0 where
  pub seat : kin w ≡ kin v
  pub spots : (a : ℕ) (m : Spot) → get_elem? v.region.spots a ≡ some m → get_elem? w.region.spots a ≡ some m
  pub known : (p : Path) → In p v.seen.known → In p w.seen.known

-- the body has ended so; or it is a loop's whose indexes have begun, which has met no fault
abbrev pub HasEnded : Program → Execution → Bool → Ended → Type 0
HasEnded p e false ended = IsAtEnd p e (fault_with ended) × (e.looping ≡ false)
HasEnded p e true ended = (ended ≡ E.Done) × (e.looping ≡ true) × (fault_of (machine_of p) (left (machine_of p) (task_of p e)) ≡ None)
    × (is_loop_at p e.spot.berth.call.task ≡ true)

-- the body of the task has ended, its children lie there, and the first ones are known finished
pub record LevelIs (v : View) (p : Program) (l : Level) (e : Execution) : Type 0 where
  pub at : e.spot.berth.at ≡ l.at
  pub inside : IsRecord v l.at
  pub ends : HasEnded p e l.looping l.ended
  pub forks : e.forks ≡ l.count
  pub children : HasChildren v.region.spots (base_of v) l.first e.spot.path l.count
  pub next : l.next ≤ l.count
  pub known : (k : ℕ) → k < l.next → In (child e.spot.path k) v.seen.known

-- where it is an own one, the task is the next entry of the frame below
abbrev pub IsFrom : Bool → Execution → List Level → List Execution → Type 0
IsFrom false e levels es = Unit {0}
IsFrom true e (l ∷ levels) (f ∷ es) = (e.spot.path ≡ child f.spot.path l.next) × (l.next < l.count)
IsFrom true e _ _ = ⊥

-- the frames, the topmost first, are those of the tasks that run
abbrev pub Stacked : View → Program → List Level → List Execution → Type 0
Stacked v p [] [] = Unit {0}
Stacked v p (l ∷ levels) (e ∷ es) = LevelIs v p l e × IsFrom l.own e levels es × Stacked v p levels es
Stacked v p _ _ = ⊥

-- the parts of a view that are as between two turns while a task is begun, run and finished
pub record Bench : Type 0 where
  pub setup : Option Setup
  pub worker : ℕ
  pub spots : List Spot
  pub built : List Stored
  pub draws : Draws
  pub given : List Spot
  pub promised : List Promise
  pub free : Bool
  pub leads : Bool
  pub pending : List Share
  pub pieces : List Share
  pub taken : List IndexRun
  -- the own interval is known empty
  pub empty : Bool
  pub over : ℕ

abbrev pub bench : View → Bench
bench v = record {
  setup = v.setup;
  worker = v.worker;
  spots = v.region.spots;
  built = v.region.built;
  draws = v.draws;
  given = v.tasks.given;
  promised = v.tasks.promised;
  free = v.desk.free;
  leads = v.desk.leads;
  pending = v.loops.pending;
  pieces = v.loops.pieces;
  taken = v.loops.taken;
  empty = v.loops.free;
  over = v.loops.over;
}

-- nothing is in hand but tasks that run, the own interval is empty, and the worker knows how much of its region is used
pub record IsQuiet (b : Bench) (p : Program) (low count : ℕ) : Type 0 where
  pub setup : Setup
  pub told : b.setup ≡ Some setup
  pub program : setup.program ≡ p
  pub own : b.worker < setup.workers
  pub workers : setup.workers ≤ WORKERS
  pub base : low ≡ RECORDS * b.worker
  pub used : count ≡ length b.spots
  pub room : length b.spots ≤ RECORDS
  pub built : b.built ≡ []
  pub draws : b.draws ≡ no_draws
  pub given : b.given ≡ []
  pub promised : b.promised ≡ []
  pub free : b.free ≡ true
  pub leads : b.leads ≡ false
  pub pending : b.pending ≡ []
  pub pieces : b.pieces ≡ []
  pub taken : b.taken ≡ []
  pub empty : b.empty ≡ true
  pub over : b.over ≡ 0

-- between two turns
pub record Calm (v : View) (p : Program) (t : Tally) (levels : List Level) : Type 0 where
  pub quiet : IsQuiet (bench v) p t.base t.used
  pub fault : IsLeast t.fault v
  pub begun : t.begun ≡ v.tasks.begun
  pub counted : v.tasks.begun ≡ length v.tasks.running + length v.tasks.ran
  pub few : AreFew v
  pub stacked : Stacked v p levels v.tasks.running

-- a task was begun last, of which nothing is done yet
pub record HasBegun (v : View) (p : Program) (t : Tally) (levels : List Level) (at : ℕ) (own : Bool) : Type 0 where
  pub quiet : IsQuiet (bench v) p t.base t.used
  pub fault : IsLeast t.fault v
  pub e : Execution
  pub rest : List Execution
  pub is : v.tasks.running ≡ e ∷ rest
  pub answers : e.answers ≡ []
  pub done : e.done ≡ 0
  pub forks : e.forks ≡ 0
  pub plain : e.looping ≡ false
  pub frame : e.frame ≡ v.tasks.begun
  pub at_is : e.spot.berth.at ≡ at
  pub inside : IsRecord v at
  pub from : IsFrom own e levels rest
  pub begun : v.tasks.begun ≡ suc t.begun
  pub counted : v.tasks.begun ≡ length v.tasks.running + length v.tasks.ran
  pub few : AreFew v
  pub stacked : Stacked v p levels rest

-- a worker that has come to its end: it has nothing in hand and its post is idle; it knows that main is finished, and
-- runs nothing, or it knows that the run stops. The fault is the first one of the tasks that it ran and the indexes that it retired
pub record Ends (v : View) (least : Option FaultRun) : Type 0 where
  pub free : v.desk.free ≡ true
  pub leads : v.desk.leads ≡ false
  pub given : v.tasks.given ≡ []
  pub promised : v.tasks.promised ≡ []
  pub pieces : v.loops.pieces ≡ []
  pub taken : v.loops.taken ≡ []
  pub fault : IsLeast least v
  pub cause : (In [] v.seen.known × (v.tasks.running ≡ [])) ⊎ (v.seen.stop ≡ true)

-- a turn leads from one state between turns to another (true), or the worker has come to its end
abbrev pub Turns : View → View → Program → Tally → List Level → Bool → Type 0
Turns v w p t levels true = Calm w p t levels × Extends v w
Turns v w p t levels false = Ends w t.fault × Extends v w

-- the topmost frame has one entry more that is known finished
abbrev pub raised : Bool → List Level → List Level
raised false levels = levels
raised true [] = []
raised true (l ∷ levels) = record l { next = l.next + 1; stolen = false } ∷ levels

-- and so it may
abbrev pub Rises : Bool → List Level → Type 0
Rises false levels = Unit {0}
Rises true [] = Unit {0}
Rises true (l ∷ levels) = l.next < l.count

-- all entries of the topmost frame are known finished, or it is a loop's, of which no index is left
pub record IsThrough (v : View) (l : Level) : Type 0 where
  pub last : l.looping ≡ false → l.count ≤ l.next
  pub emptied : l.looping ≡ true → IsLoopEmptied v l.at
