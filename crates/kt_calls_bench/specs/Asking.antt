-- A seat that may ask its own worker, and the seats with which a run begins.
use Rattle.std.specs.Prelude.{◌≡◌, ◌<◌, ◌≤◌, ℕ, Some, []}
use Rattle.kt_law.specs.declared.limits.TheConstants.{WORKERS}
use Rattle.kt_prog.specs.Objects.{objects_of}
use Rattle.kt_prog.specs.declared.programs.Program.{Program}
use Rattle.kt_ready.specs.Contents.{Contents}
use Rattle.kt_words.specs.declared.layouts.TheConstants.{RECORDS}
use Rattle.kt_rule.specs.declared.seats.Seat.{Seat}
use Rattle.kt_rule.specs.declared.tables.RunTable.{RunTable}
use Rattle.kt_rule.specs.declared.views.Setup.{Setup}
use Rattle.kt_rule.specs.declared.views.View.{View}
use Rattle.kt_calls.specs.Ranges.{IsOfCrew, IsWorker}
use Rattle.kt_pool.specs.Seats.{IsSeatOf, view_at_start}
use Rattle.kt_intervals.specs.Programs.{HasFirsts}
use Rattle.kt_worker.specs.Asking.{IsIdle}
use Rattle.kt_worker.specs.Programs.{HasRoom}
use Rattle.kt_worker.specs.declared.scratch.Scratch.{Scratch}

-- it asks nobody, and the scan has room for the region of worker 0
pub record MayAsk (v : View) (scan : Contents) : Type 0 where
  pub crew : IsOfCrew v
  pub victim : IsWorker v 0
  pub idle : IsIdle v
  pub objects : (j : Setup) → v.setup ≡ Some j → objects_of j.program.families ≤ scan.objects
  pub entries : RECORDS ≤ scan.entries

-- the seat of a worker, which has made no step
pub record IsAtStart (t : RunTable) (p : Program) (s : Seat) : Type 0 where
  pub setup : Setup
  pub worker : ℕ
  pub is : IsSeatOf setup t worker s
  pub start : s.token.me.0 ≡ view_at_start setup worker
  pub own : worker < setup.workers
  pub few : setup.workers ≤ WORKERS
  pub program : setup.program ≡ p

-- a scan with room for any region
pub record HasScan (p : Program) (scan : Contents) : Type 0 where
  pub objects : objects_of p.families ≤ scan.objects
  pub entries : RECORDS ≤ scan.entries

-- all room that a worker needs
pub record IsReady (p : Program) (s : Scratch) : Type 0 where
  pub empty : s.tools.stack.levels ≡ []
  pub room : HasRoom p s.tools
  pub firsts : HasFirsts p.families s.firsts.items
