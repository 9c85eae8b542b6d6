-- A program as it is read and checked, or the refusal; how a call ends that answers with the line of a job that has no run; and what is kept of a run.
use Rattle.std.specs.Prelude.{ℕ, List, Option, None, if◌then◌else◌}
use Rattle.kt_prog.specs.Accepted.{IsAccepted}
use Rattle.kt_open.specs.Answers.{IsRefused}
use Rattle.kt_print.specs.declared.lines.Line.{Line}
use Rattle.kt_print.specs.declared.lines.Line.TheVariants as L
use Rattle.kt_pool.specs.declared.closing.Record.{Record}
use Rattle.kt_read.specs.Jobs.{IsJob}
use Rattle.kaapi.specs.Exits.{ends_run}
use Rattle.kaapi.specs.declared.exits.Exit.{Exit}
use Rattle.kaapi.specs.declared.exits.Exit.TheVariants as E
use Rattle.kaapi.specs.declared.jobs.Checked.{Checked}
use Rattle.kaapi.specs.declared.jobs.Checked.TheVariants as C

abbrev pub IsChecked : List ℕ → Checked → Type 0
IsChecked job (C.Accepted program) = (from : ℕ) × IsJob job program from × IsAccepted program
IsChecked job (C.Refused refusal) = IsRefused job refusal

abbrev pub exit_of : Line → Exit
exit_of (L.Refused refusal) = E.Refused
exit_of _ = E.BadData

-- the record of a run, where the call ends as a run does
abbrev pub kept : Exit → Option Record → Option Record
kept exit r = if ends_run exit then r else None
