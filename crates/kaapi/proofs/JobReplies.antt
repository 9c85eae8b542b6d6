-- How a job's reply is an answer.
use Rattle.std.proofs.Common.{◌≡◌, ℕ, Bool, List, [], true, false, Some, None, Result, Ok, Err, refl, ap, sym, subst, ◌∙◌}
use Rattle.std.specs.Prelude.{IfOk}
use Rattle.kt_io.specs.Ending.{Said}
use Rattle.kt_law.specs.declared.places.Refusal.{Refusal}
use Rattle.kt_prog.specs.Accepted.{IsAccepted}
use Rattle.kt_prog.specs.Refusals.{refusal_of, noted}
use Rattle.kt_prog.specs.declared.programs.Program.{Program}
use Rattle.kt_print.specs.declared.lines.Line.{Line}
use Rattle.kt_print.specs.declared.lines.Line.TheVariants as L
use Rattle.kt_open.specs.Answers.{IsAnswer, IsRefused, Unopens, answered_line}
use Rattle.kt_open.specs.Answers.{IsAnswer as I, Unopens as U}
use Rattle.kt_open.specs.Answers.IsRefused.{unread, broken}
use Rattle.kt_read.specs.Jobs.{IsJob}
use Rattle.kt_read.specs.Laws.{OneJob, JobIsRead}
use Rattle.kaapi.specs.Answers.{answered_by, told}
use Rattle.kaapi.specs.Exits.{ends_run, number_of}
use Rattle.kaapi.specs.Jobs.{exit_of}
use Rattle.kaapi.specs.declared.exits.Exit.{Exit}

-- what follows for each value
pub ok_then : {A E : Type 0} (r : Result A E) (P Q : A → Type 0) → IfOk r P → ((a : A) → P a → Q a) → IfOk r Q
ok_then (Ok a) P Q h f = f a h
ok_then (Err e) P Q h f = tt

pub of_line : (bytes : List ℕ) (exit : Exit) (line : Line) (reply : Said Exit) → IsAnswer bytes (answered_line (number_of exit) line) → reply ≡ told exit line →
    IsAnswer bytes (answered_by reply)
of_line bytes exit line reply answer same = subst (IsAnswer bytes) (sym (ap answered_by same)) answer

pub not_accepted : (p : Program) (r : Refusal) → refusal_of p ≡ Some r → IsAccepted p → ⊥
not_accepted p r refused accepted =
    let none = ap (noted None) accepted in
    let both : None ≡ Some r = sym none ∙ refused in
    cc

-- the line of a job that has no run ends none
pub line_is_no_run : (line : Line) → ends_run (exit_of line) ≡ false
line_is_no_run L.Usage = refl
line_is_no_run L.TooLong = refl
line_is_no_run (L.Refused refusal) = refl
line_is_no_run (L.BadNumber place) = refl
line_is_no_run (L.TooFew found wanted) = refl
line_is_no_run (L.TooMany place) = refl
line_is_no_run (L.Fault fault) = refl
line_is_no_run L.Limit = refl
line_is_no_run (L.Totals tasks indexes sum) = refl

-- a job that is refused has no accepted program
pub never_accepted : OneJob → JobIsRead → (bytes : List ℕ) (r : Refusal) → IsRefused bytes r → (p : Program) (from : ℕ) → IsJob bytes p from → IsAccepted p → ⊥
never_accepted one_job is_read bytes r (unread h) p from job accepted = is_read bytes p from r job h
never_accepted one_job is_read bytes r (broken {p = q} {from = place} other h) p from job accepted =
    let same = (one_job bytes p q from place job other).0 in
    not_accepted q r h (subst IsAccepted same accepted)

-- the line of a job that has no run
pub by_line : (bytes : List ℕ) (status : ℕ) (line : Line) → Unopens bytes status line → IsAnswer bytes (answered_line (number_of (exit_of line)) line)
by_line bytes status line (U.refused h) = I.unopened (U.refused h)
by_line bytes status line (U.bad_number opens h) = I.unopened (U.bad_number opens h)
by_line bytes status line (U.too_few opens h) = I.unopened (U.too_few opens h)
by_line bytes status line (U.too_many opens h) = I.unopened (U.too_many opens h)
