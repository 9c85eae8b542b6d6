-- What the words and a job are answered: an exit and a text.
use Rattle.std.specs.Prelude.{◌≡◌, ◌≤◌, ◌<◌, ℕ, List, length, Bool, true, false, Option, Some, None}
use Rattle.kt_io.specs.Ending.{Said, Faults}
use Rattle.kt_law.specs.declared.limits.TheConstants.{JOB}
use Rattle.kt_law.specs.declared.places.Refusal.{Refusal}
use Rattle.kt_text.specs.Words.{command_of}
use Rattle.kt_gen.specs.Jobs.{job_text}
use Rattle.kt_text.specs.declared.commands.Kind.{Kind}
use Rattle.kt_text.specs.declared.commands.Command.{Command}
use Rattle.kt_text.specs.declared.commands.Command.TheVariants as C
use Rattle.kt_prog.specs.Accepted.{IsAccepted}
use Rattle.kt_prog.specs.declared.programs.Program.{Program}
use Rattle.kt_print.specs.CanonicalText.{canonical_text}
use Rattle.kt_print.specs.Lines.{line_of}
use Rattle.kt_print.specs.declared.lines.Line.{Line}
use Rattle.kt_print.specs.declared.lines.Line.TheVariants as L
use Rattle.kt_open.specs.Answers.{Answered, IsAnswer, IsRefused}
use Rattle.kt_read.specs.Jobs.{IsJob}
use Rattle.kaapi.specs.Exits.{number_of}
use Rattle.kaapi.specs.Totals.{IsGenerated, totals_of}
use Rattle.kaapi.specs.declared.exits.Exit.{Exit}
use Rattle.kaapi.specs.declared.exits.Exit.TheVariants as E
use Rattle.kaapi.specs.declared.asked.Asked.{Asked}
use Rattle.kaapi.specs.declared.asked.Asked.TheVariants as A

-- the exits that are no answers
abbrev pub faults : Faults Exit
faults = record { read_fault = E.ReadFault; write_fault = E.WriteFault; no_memory = E.NoMemory }

abbrev pub told : Exit → Line → Said Exit
told exit line = record { exit = exit; text = line_of line }

-- the generated job
abbrev pub generated : Kind → ℕ → ℕ → Said Exit
generated kind size number = record { exit = E.Done; text = job_text kind size number }

-- to `check`: the refusal, or the canonical text of the program
pub data AnswersCheck (job : List ℕ) : Said Exit → Type 0 where
  refused : {r : Refusal} → IsRefused job r → AnswersCheck job (told E.Refused (L.Refused r))
  printed : {p : Program} {from : ℕ} → IsJob job p from → IsAccepted p → AnswersCheck job (record { exit = E.Done; text = canonical_text p })

-- the status and the text
abbrev pub answered_by : Said Exit → Answered
answered_by reply = record { status = number_of reply.exit; text = reply.text }

-- to `seq`, to `sim` and to `run`: what the job is answered that is run
abbrev pub AnswersRun : List ℕ → Said Exit → Type 0
AnswersRun job reply = IsAnswer job (answered_by reply)

abbrev pub AnswersAsked : Asked → List ℕ → Said Exit → Type 0
AnswersAsked A.Check job reply = AnswersCheck job reply
AnswersAsked (A.Run way) job reply = AnswersRun job reply

-- to `demo`: the totals of the reference run of the generated job
pub data AnswersDemo (kind : Kind) (size number : ℕ) : Said Exit → Type 0 where
  totals : {p : Program} {input : List ℕ} → IsGenerated kind size number p input → AnswersDemo kind size number (told E.Done (totals_of p input))

-- to words that ask for an answer to a job, of which there may be so many bytes; `Given` says what a job of so few is answered
pub data AnswersJob (Given : List ℕ → Said Exit → Type 0) (job : List ℕ) : Said Exit → Type 0 where
  too_long : JOB < length job → AnswersJob Given job (told E.TooLong L.TooLong)
  within : {reply : Said Exit} → length job ≤ JOB → Given job reply → AnswersJob Given job reply

-- no job of so few bytes is answered
abbrev pub AnswersNone : List ℕ → Said Exit → Type 0
AnswersNone job reply = ⊥

-- to what the words ask for
abbrev pub AnswersCommand : Option Command → List ℕ → Said Exit → Type 0
AnswersCommand (Some C.Check) job reply = AnswersJob AnswersCheck job reply
AnswersCommand (Some C.Seq) job reply = AnswersJob AnswersRun job reply
AnswersCommand (Some (C.Sim workers number)) job reply = AnswersJob AnswersRun job reply
AnswersCommand (Some (C.Gen kind size number)) job reply = reply ≡ generated kind size number
AnswersCommand (Some (C.Run workers)) job reply = AnswersJob AnswersRun job reply
AnswersCommand (Some (C.Demo kind size number workers)) job reply = AnswersDemo kind size number reply
AnswersCommand None job reply = reply ≡ told E.Usage L.Usage

abbrev pub Answers : List (List ℕ) → List ℕ → Said Exit → Type 0
Answers words job reply = AnswersCommand (command_of words) job reply

-- what is left of the words' meaning where there are no workers: `run` and `demo` ask for nothing there
abbrev pub plain : Option Command → Option Command
plain (Some (C.Run workers)) = None
plain (Some (C.Demo kind size number workers)) = None
plain command = command

-- the same without workers
abbrev pub PlainAnswers : List (List ℕ) → List ℕ → Said Exit → Type 0
PlainAnswers words job reply = AnswersCommand (plain (command_of words)) job reply

-- the words ask for an answer to a job
abbrev pub asks_job : Option Command → Bool
asks_job (Some C.Check) = true
asks_job (Some C.Seq) = true
asks_job (Some (C.Sim workers number)) = true
asks_job (Some (C.Run workers)) = true
asks_job _ = false
