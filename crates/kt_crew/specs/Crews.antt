-- What the workers of a run take along and what they bring back, in the order of their numbers.
use Rattle.std.specs.Prelude.{◌≡◌, ◌<◌, ◌≤◌, ℕ, List, [], length, map, slice_get, Some}
use Rattle.kt_law.specs.declared.limits.TheConstants.{WORKERS}
use Rattle.kt_prog.specs.Accepted.{IsAccepted}
use Rattle.kt_prog.specs.declared.programs.Program.{Program}
use Rattle.kt_rule.specs.declared.seats.Seat.{Seat}
use Rattle.kt_rule.specs.declared.tables.RunTable.{RunTable}
use Rattle.kt_rule.specs.declared.views.Setup.{Setup}
use Rattle.kt_pool.specs.Seats.{IsSeatOf, view_at_start}
use Rattle.kt_worker.specs.Levels.{Ends}
use Rattle.kt_intervals.specs.Programs.{HasFirsts}
use Rattle.kt_worker.specs.Programs.{HasRoom}
use Rattle.kt_worker.specs.declared.scratch.Scratch.{Scratch}
use Rattle.kt_crew.specs.declared.jobs.Job.{Job}
use Rattle.kt_crew.specs.declared.jobs.Done.{Done}

-- a run of this program by 1 to 8 workers
pub record IsRun (j : Setup) (p : Program) : Type 0 where
  pub program : j.program ≡ p
  pub accepted : IsAccepted p
  pub few : j.workers ≤ WORKERS

-- all room that a worker needs
pub record IsReady (p : Program) (s : Scratch) : Type 0 where
  pub empty : s.tools.stack.levels ≡ []
  pub room : HasRoom p s.tools
  pub firsts : HasFirsts p.families s.firsts.items

-- the seat of a worker that has not made a step, and its room
pub record IsJobOf (j : Setup) (t : RunTable) (p : Program) (k : ℕ) (job : Job) : Type 0 where
  pub own : k < j.workers
  pub seat : IsSeatOf j t k job.seat
  pub fresh : job.seat.token.me.0 ≡ view_at_start j k
  pub ready : IsReady p job.scratch

-- the seat of a worker that has come to its end, and its fault
pub record IsDoneBy (j : Setup) (t : RunTable) (p : Program) (k : ℕ) (d : Done) : Type 0 where
  pub seat : IsSeatOf j t k d.seat
  pub ends : Ends d.seat.token.me.0 d.fault

pub record AreJobs (j : Setup) (t : RunTable) (p : Program) (jobs : List Job) : Type 0 where
  pub count : length jobs ≡ j.workers
  pub each : (k : ℕ) (job : Job) → slice_get jobs k ≡ Some job → IsJobOf j t p k job

pub record AreDone (j : Setup) (t : RunTable) (p : Program) (done : List Done) : Type 0 where
  pub count : length done ≡ j.workers
  pub each : (k : ℕ) (d : Done) → slice_get done k ≡ Some d → IsDoneBy j t p k d

-- each has its room
abbrev pub AreReady : Program → List Job → Type 0
AreReady p jobs = (k : ℕ) (job : Job) → slice_get jobs k ≡ Some job → IsReady p job.scratch

abbrev pub seats_in : List Job → List Seat
seats_in = map (λ (job : Job). job.seat)

abbrev pub seats_back : List Done → List Seat
seats_back = map (λ (d : Done). d.seat)
