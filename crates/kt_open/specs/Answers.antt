-- What a job is answered that is run: the status with which the process ends, and the bytes written.
use Rattle.std.specs.Prelude.{◌≡◌, ℕ, List, Some, Ok, Err}
use Rattle.kt_law.specs.declared.places.Place.{Place}
use Rattle.kt_law.specs.declared.places.Refusal.{Refusal}
use Rattle.kt_text.specs.Data.{numbers}
use Rattle.kt_text.specs.declared.data.DataError.TheVariants as D
use Rattle.kt_prog.specs.Accepted.{IsAccepted}
use Rattle.kt_prog.specs.Objects.{inputs_of}
use Rattle.kt_prog.specs.Outcome.{outcome_of}
use Rattle.kt_prog.specs.Refusals.{refusal_of}
use Rattle.kt_prog.specs.declared.programs.Family.{Family}
use Rattle.kt_prog.specs.declared.programs.Program.{Program}
use Rattle.kt_prog.specs.declared.runs.Outcome.{Outcome}
use Rattle.kt_prog.specs.declared.runs.Outcome.TheVariants as O
use Rattle.kt_print.specs.Lines.{line_of}
use Rattle.kt_print.specs.Rows.{rows_text}
use Rattle.kt_print.specs.declared.lines.Line.{Line}
use Rattle.kt_print.specs.declared.lines.Line.TheVariants as L
use Rattle.kt_read.specs.Jobs.{IsJob, IsUnread}

pub record Answered : Type 0 where
  pub status : ℕ
  pub text : List ℕ

abbrev pub answered_line : ℕ → Line → Answered
answered_line status line = record { status = status; text = line_of line }

-- the reader refuses the job, or its program is not accepted
pub data IsRefused (bytes : List ℕ) : Refusal → Type 0 where
  unread : {r : Refusal} → IsUnread bytes r → IsRefused bytes r
  broken : {p : Program} {from : ℕ} {r : Refusal} → IsJob bytes p from → refusal_of p ≡ Some r → IsRefused bytes r

-- the rows, the fault or the limit that the run comes to
abbrev pub answered_run : List Family → Outcome → Answered
answered_run families (O.Rows rows) = record { status = 0; text = rows_text families rows }
answered_run families (O.Fault fault) = answered_line 7 (L.Fault fault)
answered_run families O.Limit = answered_line 8 L.Limit

-- the program is read and accepted, and its data, of which so many numbers are wanted, begin here
pub record Opens (bytes : List ℕ) (p : Program) (from wanted : ℕ) : Type 0 where
  pub job : IsJob bytes p from
  pub accepted : IsAccepted p
  pub wants : wanted ≡ inputs_of p.families

-- so it is, and these are the numbers
pub record Opened (bytes : List ℕ) (p : Program) (input : List ℕ) : Type 0 where
  pub from : ℕ
  pub wanted : ℕ
  pub opens : Opens bytes p from wanted
  pub data_given : numbers bytes from wanted ≡ Ok input

-- the status and the line for a job that has no run
pub data Unopens (bytes : List ℕ) : ℕ → Line → Type 0 where
  refused : {r : Refusal} → IsRefused bytes r → Unopens bytes 5 (L.Refused r)
  bad_number : {p : Program} {from wanted : ℕ} {place : Place} → Opens bytes p from wanted →
      numbers bytes from wanted ≡ Err (D.BadNumber place) → Unopens bytes 6 (L.BadNumber place)
  too_few : {p : Program} {from wanted found sought : ℕ} → Opens bytes p from wanted →
      numbers bytes from wanted ≡ Err (D.TooFew found sought) → Unopens bytes 6 (L.TooFew found sought)
  too_many : {p : Program} {from wanted : ℕ} {place : Place} → Opens bytes p from wanted →
      numbers bytes from wanted ≡ Err (D.TooMany place) → Unopens bytes 6 (L.TooMany place)

pub data IsAnswer (bytes : List ℕ) : Answered → Type 0 where
  unopened : {status : ℕ} {line : Line} → Unopens bytes status line → IsAnswer bytes (answered_line status line)
  ran : {p : Program} {input : List ℕ} → Opened bytes p input → IsAnswer bytes (answered_run p.families (outcome_of p input).outcome)
