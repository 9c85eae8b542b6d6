-- The headline, as one call of the program keeps it.
--
-- For every job, every number of workers and every order of their atomic steps: when the call returns, with neither an outside fault nor want
-- of memory, its status and the written bytes are those of the job's reference run; and where that run keeps the limits, each of its tasks and
-- loop indexes was executed exactly once, and every read found the last value written before it in reference order, cumulative writes folded in.
--
-- The job of `run` is the one that the source gives, that of `demo` the generated one.
--
-- No sentence below names the order of steps: the call keeps them in whatever order it met.
use Rattle.std.specs.Prelude.{◌≡◌, ◌≢◌, ◌↔◌, ℕ, List, true, false, Option, Some, None}
use Rattle.kt_io.specs.Ending.{EndsWith}
use Rattle.kt_io.specs.Over.{Over}
use Rattle.kt_open.specs.Answers.{Opened}
use Rattle.kt_pool.specs.Exact.{IsExact, joined_view, limit_of, workers_of}
use Rattle.kt_pool.specs.Seats.{setup_of}
use Rattle.kt_pool.specs.declared.closing.Record.{Record}
use Rattle.kt_prog.specs.LastWriter.{LoadsFindLastWritten}
use Rattle.kt_prog.specs.declared.programs.Program.{Program}
use Rattle.kt_text.specs.Words.{command_of}
use Rattle.kt_text.specs.declared.commands.Command.{Command}
use Rattle.kt_text.specs.declared.commands.Command.TheVariants as C
use Rattle.kaapi.specs.Answers.{Answers, faults}
use Rattle.kaapi.specs.Exits.{ends_run}
use Rattle.kaapi.specs.Totals.{IsGenerated}
use Rattle.kaapi.specs.declared.exits.Exit.{Exit}
use Rattle.kaapi.specs.declared.exits.Exit.TheVariants as E

-- what the record of a run by so many workers says, where the call ended so; `Asked` tells the program that was to be run, and its numbers
pub record IsRunOf (Asked : Program → List ℕ → Type 0) (workers : ℕ) (exit : Exit) (r : Record) : Type 0 where
  pub program : Program
  pub input : List ℕ
  pub asked : Asked program input
  -- so many workers shared its table
  pub shared : workers_of r ≡ workers
  -- it was stopped just where the answer is that the reference run passes a limit
  pub stopped : (limit_of r ≡ true) ↔ (exit ≡ E.Limit)
  -- else each task of the reference run was claimed once and ran once, each index of its loops was retired once, no other was, and each read
  -- found what it finds there
  pub once : exit ≢ E.Limit → IsExact (setup_of program input workers) (joined_view r)

-- a record is there just where a run came to its end and its answer was written
abbrev pub Recorded : (Program → List ℕ → Type 0) → ℕ → Exit → Option Record → Type 0
Recorded Asked workers exit (Some r) = (ends_run exit ≡ true) × IsRunOf Asked workers exit r
Recorded Asked workers exit None = ends_run exit ≡ false

-- and only words that ask for workers have one: `run` of the program that the job opens to, `demo` of the generated one
abbrev pub RecordedFor : Option Command → List ℕ → Exit → Option Record → Type 0
RecordedFor (Some (C.Run workers)) job exit handed = Recorded (Opened job) workers exit handed
RecordedFor (Some (C.Demo kind size number workers)) job exit handed = Recorded (IsGenerated kind size number) workers exit handed
RecordedFor _ job exit handed = handed ≡ None

pub record Headline (words : List (List ℕ)) (job : List ℕ) (source sink : Over) (exit : Exit) (handed : Option Record) : Type 0 where
  -- the status and the written bytes are the answer to the words and the job: to `run` that of the reference run or a refusal, to `demo` the
  -- totals of the reference run; or a stream failed in this call, or memory was wanting
  pub answered : EndsWith faults (Answers words job) source sink exit
  -- the record of a run by workers says that each task was executed exactly once, with the reads of the reference run
  pub recorded : RecordedFor (command_of words) job exit handed
  -- and a read of any reference run finds the last value written before it, cumulative writes folded in
  pub found : LoadsFindLastWritten
