-- How a worker stands that is driven step by step.
use Rattle.std.specs.Prelude.{◌≡◌, ◌<◌, ◌≤◌, ℕ, List, []}
use Rattle.kt_law.specs.declared.limits.TheConstants.{WORKERS}
use Rattle.kt_prog.specs.Accepted.{IsAccepted}
use Rattle.kt_prog.specs.declared.programs.Program.{Program}
use Rattle.kt_words.specs.declared.layouts.TheConstants.{RECORDS}
use Rattle.kt_words.specs.declared.pairs.Pair.{Pair}
use Rattle.kt_rule.specs.declared.seats.Seat.{Seat}
use Rattle.kt_rule.specs.declared.tables.RunTable.{RunTable}
use Rattle.kt_rule.specs.declared.views.Setup.{Setup}
use Rattle.kt_rule.specs.declared.views.View.{View}
use Rattle.kt_pool.specs.Seats.{IsSeatOf, view_at_start}
use Rattle.kt_posts.specs.Desks.{leads_now}
use Rattle.kt_posts.specs.declared.answers.Answer.{Answer}
use Rattle.kt_posts.specs.declared.answers.Answer.TheVariants as A
use Rattle.kt_steps.specs.Told.{IsNotedReady}
use Rattle.kt_worker.specs.Asking.{Asks}
use Rattle.kt_worker.specs.Levels.{Calm, HasBegun}
use Rattle.kt_worker.specs.Looping.{HasInterval}
use Rattle.kt_intervals.specs.Chunks.{IsTaken}
use Rattle.kt_intervals.specs.Programs.{HasFirsts}
use Rattle.kt_worker.specs.Programs.{HasRoom}
use Rattle.kt_worker.specs.Turns.{HasPiece, IsAboutToStart}
use Rattle.kt_worker.specs.Working.{IsFresh}
use Rattle.kt_worker.specs.declared.scratch.Tools.{Tools}
use Rattle.kt_worker.specs.declared.stacks.Level.{Level}
use Rattle.kt_worker.specs.declared.tallies.Tally.{Tally}
use Rattle.kt_pool_trials.specs.declared.stages.Stage.{Stage}
use Rattle.kt_pool_trials.specs.declared.stages.Stage.TheVariants as S

-- what a worker takes along
pub record IsEquipped (p : Program) (numbers : List ℕ) (tools : Tools) : Type 0 where
  pub accepted : IsAccepted p
  pub firsts : HasFirsts p.families numbers
  pub room : HasRoom p tools

-- between two turns it asked for work
pub record HasAsked (v : View) (p : Program) (t : Tally) (levels : List Level) : Type 0 where
  pub before : View
  pub calm : Calm before p t levels
  pub asks : Asks before v

-- and it leads those that ask at worker 0
pub record Leads (v : View) (p : Program) (t : Tally) (levels : List Level) : Type 0 where
  pub mid : View
  pub asked : HasAsked mid p t levels
  pub leads : v ≡ leads_now mid 0

-- these positions were taken from its own interval, of the loop in the record `at`
pub record HasChunk (w : View) (p : Program) (t : Tally) (levels : List Level) (at : ℕ) (pair : Pair) : Type 0 where
  pub before : View
  pub interval : HasInterval before p t levels at
  pub same : w ≡ record before { loops = record before.loops { taken = w.loops.taken } }
  pub taken : IsTaken at w pair

abbrev pub Stands : View → Program → Tally → List Level → Stage → Type 0
Stands v p t levels S.New = IsFresh v p × Calm v p t levels × (levels ≡ [])
Stands v p t levels S.Resting = Calm v p t levels
Stands v p t levels S.Asking = HasAsked v p t levels
Stands v p t levels S.Leading = Leads v p t levels
Stands v p t levels (S.Given at) = IsAboutToStart v p t levels at
Stands v p t levels (S.Piece at pair) = HasPiece v p t levels at pair
Stands v p t levels (S.Begun at own) = HasBegun v p t levels at own
Stands v p t levels (S.Noted at x) = Calm v p t levels × IsNotedReady v at x × (at < RECORDS)
Stands v p t levels (S.Looping at) = HasInterval v p t levels at
Stands v p t levels (S.Taken at pair) = HasChunk v p t levels at pair
Stands v p t levels S.Over = Unit {0}

-- where it stands that was answered so
abbrev pub stage_of : Answer → Stage
stage_of A.NotYet = S.Asking
stage_of A.Withdrawn = S.Over
stage_of A.Failed = S.Resting
stage_of (A.Task at) = S.Given at
stage_of (A.Piece at pair) = S.Piece at pair

pub record IsDriven (v : View) (p : Program) (firsts : List ℕ) (t : Tally) (tools : Tools) (stage : Stage) : Type 0 where
  pub equipped : IsEquipped p firsts tools
  pub stands : Stands v p t tools.stack.levels stage

-- the seat of a worker, which has made no step
pub record IsUnmoved (t : RunTable) (p : Program) (s : Seat) : Type 0 where
  pub setup : Setup
  pub worker : ℕ
  pub is : IsSeatOf setup t worker s
  pub start : s.token.me.0 ≡ view_at_start setup worker
  pub below : worker < setup.workers
  pub few : setup.workers ≤ WORKERS
  pub program : setup.program ≡ p

-- room for a worker that runs nothing yet
pub record IsRoomy (p : Program) (tools : Tools) : Type 0 where
  pub room : HasRoom p tools
  pub none : tools.stack.levels ≡ []
