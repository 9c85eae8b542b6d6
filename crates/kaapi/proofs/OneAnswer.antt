-- The words and a job have one answer.
use Rattle.std.proofs.Common.{◌≡◌, ◌≤◌, ◌<◌, ℕ, List, [], ◌∷◌, true, false, Bool, Some, None, Option, Result, Ok, Err, length, refl, ap, sym, subst, ◌∙◌, arith, get_or}
use Rattle.kt_io.specs.Ending.{Said}
use Rattle.kt_law.specs.declared.limits.TheConstants.{JOB}
use Rattle.kt_law.specs.declared.places.Place.{Place}
use Rattle.kt_law.specs.declared.places.Refusal.{Refusal}
use Rattle.kt_text.specs.Data.{numbers}
use Rattle.kt_text.specs.declared.commands.Command.{Command}
use Rattle.kt_text.specs.declared.commands.Kind.{Kind as JobKind}
use Rattle.kt_text.specs.declared.commands.Command.TheVariants as C
use Rattle.kt_text.specs.declared.data.DataError.{DataError}
use Rattle.kt_text.specs.declared.data.DataError.TheVariants as D
use Rattle.kt_prog.specs.Accepted.{IsAccepted}
use Rattle.kt_prog.specs.Objects.{inputs_of}
use Rattle.kt_prog.specs.Outcome.{outcome_of}
use Rattle.kt_prog.specs.Refusals.{refusal_of}
use Rattle.kt_prog.specs.declared.programs.Program.{Program}
use Rattle.kt_print.specs.CanonicalText.{canonical_text}
use Rattle.kt_print.specs.Lines.{line_of}
use Rattle.kt_print.specs.declared.lines.Line.{Line}
use Rattle.kt_print.specs.declared.lines.Line.TheVariants as L
use Rattle.kt_open.specs.Answers.{Answered, IsAnswer, IsRefused, Opens, Unopens, answered_line, answered_run}
use Rattle.kt_open.specs.Answers.{IsAnswer as I, Unopens as U}
use Rattle.kt_open.specs.Answers.IsRefused.{unread, broken}
use Rattle.kt_read.specs.Jobs.{IsJob}
use Rattle.kt_read.specs.Laws.{OneJob, OneRefusal, JobIsRead}
use Rattle.kaapi.specs.Answers.{AnswersCheck, AnswersRun, AnswersJob, AnswersCommand, AnswersDemo, answered_by, told}
use Rattle.kaapi.specs.Answers.{AnswersCheck as K, AnswersDemo as M}
use Rattle.kaapi.specs.Answers.AnswersJob.{too_long, within}
use Rattle.kaapi.specs.Exits.{number_of}
use Rattle.kaapi.specs.Laws.{OneAnswer}
use Rattle.kaapi.specs.Totals.{totals_of}
use Rattle.kaapi.specs.declared.exits.Exit.{Exit}
use Rattle.kaapi.specs.declared.exits.Exit.TheVariants as E
use Rattle.kaapi.proofs.JobReplies.{never_accepted, not_accepted}

same_some : {A : Type 0} {o : Option A} {a b : A} → o ≡ Some a → o ≡ Some b → a ≡ b
same_some h k = cc

-- what is told of two answers to the data that begin at one place, of which so many are wanted
one_error : {r : Result (List ℕ) DataError} {d e : DataError} → r ≡ Err d → r ≡ Err e → d ≡ e
one_error h k = cc

one_input : {r : Result (List ℕ) DataError} {a b : List ℕ} → r ≡ Ok a → r ≡ Ok b → a ≡ b
one_input h k = cc

no_input : {r : Result (List ℕ) DataError} {a : List ℕ} {e : DataError} → r ≡ Ok a → r ≡ Err e → ⊥
no_input h k = cc

one_demo : (kind : JobKind) (size number : ℕ) (a b : Said Exit) → AnswersDemo kind size number a → AnswersDemo kind size number b → a ≡ b
one_demo kind size number a b (M.totals {p} {input} g) (M.totals {p = q} {input = numbers} k) =
    let programs : p ≡ q = g.tree ∙ sym k.tree in
    let inputs : input ≡ numbers = g.numbers ∙ sym k.numbers in
    ap (λ (p : Program). told E.Done (totals_of p input)) programs ∙ ap (λ (input : List ℕ). told E.Done (totals_of q input)) inputs

module _ (one_job : OneJob) (one_refusal : OneRefusal) (is_read : JobIsRead) where
  one_refused : (bytes : List ℕ) (r s : Refusal) → IsRefused bytes r → IsRefused bytes s → r ≡ s
  one_refused bytes r s (unread h) (unread k) = one_refusal bytes r s h k
  one_refused bytes r s (unread h) (broken {p = q} {from} job k) = absurd (is_read bytes q from r job h)
  one_refused bytes r s (broken {p} {from} job h) (unread k) = absurd (is_read bytes p from s job k)
  one_refused bytes r s (broken {p} {from} job h) (broken {p = q} {from = place} other k) =
      same_some (subst (λ p. refusal_of p ≡ Some r) (one_job bytes p q from place job other).0 h) k

  not_opened : {X : Type 0} (bytes : List ℕ) (r : Refusal) (p : Program) (from wanted : ℕ) → IsRefused bytes r → Opens bytes p from wanted → X
  not_opened bytes r p from wanted h opens = absurd (never_accepted one_job is_read bytes r h p from opens.job opens.accepted)

  -- the answer of the data that begin somewhere, by what `numbers` says of them
  data Says (bytes : List ℕ) (p : Program) (from wanted : ℕ) : Answered → Type 0 where
    bad_number : {place : Place} → numbers bytes from wanted ≡ Err (D.BadNumber place) → Says bytes p from wanted (answered_line 6 (L.BadNumber place))
    too_few : {found sought : ℕ} → numbers bytes from wanted ≡ Err (D.TooFew found sought) → Says bytes p from wanted (answered_line 6 (L.TooFew found sought))
    too_many : {place : Place} → numbers bytes from wanted ≡ Err (D.TooMany place) → Says bytes p from wanted (answered_line 6 (L.TooMany place))
    ran : {input : List ℕ} → numbers bytes from wanted ≡ Ok input → Says bytes p from wanted (answered_run p.families (outcome_of p input).outcome)

  one_said : (bytes : List ℕ) (p : Program) (from wanted : ℕ) (a b : Answered) → Says bytes p from wanted a → Says bytes p from wanted b → a ≡ b
  one_said bytes p from wanted a b (bad_number h) (bad_number k) = let e = one_error h k in cc
  one_said bytes p from wanted a b (bad_number h) (too_few k) = let e = one_error h k in absurd cc
  one_said bytes p from wanted a b (bad_number h) (too_many k) = let e = one_error h k in absurd cc
  one_said bytes p from wanted a b (bad_number h) (ran k) = absurd (no_input k h)
  one_said bytes p from wanted a b (too_few h) (bad_number k) = let e = one_error h k in absurd cc
  one_said bytes p from wanted a b (too_few h) (too_few k) = let e = one_error h k in cc
  one_said bytes p from wanted a b (too_few h) (too_many k) = let e = one_error h k in absurd cc
  one_said bytes p from wanted a b (too_few h) (ran k) = absurd (no_input k h)
  one_said bytes p from wanted a b (too_many h) (bad_number k) = let e = one_error h k in absurd cc
  one_said bytes p from wanted a b (too_many h) (too_few k) = let e = one_error h k in absurd cc
  one_said bytes p from wanted a b (too_many h) (too_many k) = let e = one_error h k in cc
  one_said bytes p from wanted a b (too_many h) (ran k) = absurd (no_input k h)
  one_said bytes p from wanted a b (ran h) (bad_number k) = absurd (no_input h k)
  one_said bytes p from wanted a b (ran h) (too_few k) = absurd (no_input h k)
  one_said bytes p from wanted a b (ran h) (too_many k) = absurd (no_input h k)
  one_said bytes p from wanted a b (ran h) (ran k) = ap (λ input. answered_run p.families (outcome_of p input).outcome) (one_input h k)

  -- an answer is that of a refusal, or that of data
  data Kind (bytes : List ℕ) (a : Answered) : Type 0 where
    of_refusal : (r : Refusal) → IsRefused bytes r → a ≡ answered_line 5 (L.Refused r) → Kind bytes a
    of_data : (p : Program) (from wanted : ℕ) → Opens bytes p from wanted → Says bytes p from wanted a → Kind bytes a

  kind_of_line : (bytes : List ℕ) (status : ℕ) (line : Line) → Unopens bytes status line → Kind bytes (answered_line status line)
  kind_of_line bytes status line (U.refused h) = of_refusal _ h refl
  kind_of_line bytes status line (U.bad_number opens h) = of_data _ _ _ opens (bad_number h)
  kind_of_line bytes status line (U.too_few opens h) = of_data _ _ _ opens (too_few h)
  kind_of_line bytes status line (U.too_many opens h) = of_data _ _ _ opens (too_many h)

  kind_of : (bytes : List ℕ) (a : Answered) → IsAnswer bytes a → Kind bytes a
  kind_of bytes a (I.unopened {status} {line} h) = kind_of_line bytes status line h
  kind_of bytes a (I.ran opened) = of_data _ _ _ opened.opens (ran opened.data_given)

  says_at : (bytes : List ℕ) (p q : Program) (from place wanted sought : ℕ) (a : Answered) → Opens bytes p from wanted → Opens bytes q place sought →
      Says bytes q place sought a → Says bytes p from wanted a
  says_at bytes p q from place wanted sought a one other h =
      let is = one_job bytes q p place from other.job one.job in
      let count : sought ≡ wanted = other.wants ∙ ap (λ (p : Program). inputs_of p.families) is.0 ∙ sym one.wants in
      subst (λ wanted. Says bytes p from wanted a) count (subst (λ from. Says bytes p from sought a) is.1 (subst (λ p. Says bytes p place sought a) is.0 h))

  one_kind : (bytes : List ℕ) (a b : Answered) → Kind bytes a → Kind bytes b → a ≡ b
  one_kind bytes a b (of_refusal r h e) (of_refusal s k f) = e ∙ ap (λ r. answered_line 5 (L.Refused r)) (one_refused bytes r s h k) ∙ sym f
  one_kind bytes a b (of_refusal r h e) (of_data q place sought opens k) = not_opened bytes r q place sought h opens
  one_kind bytes a b (of_data p from wanted opens h) (of_refusal s k f) = not_opened bytes s p from wanted k opens
  one_kind bytes a b (of_data p from wanted opens h) (of_data q place sought other k) =
      one_said bytes p from wanted a b h (says_at bytes p q from place wanted sought b opens other k)

  one_run : (bytes : List ℕ) (a b : Answered) → IsAnswer bytes a → IsAnswer bytes b → a ≡ b
  one_run bytes a b h k = one_kind bytes a b (kind_of bytes a h) (kind_of bytes b k)

  one_check : (job : List ℕ) (a b : Said Exit) → AnswersCheck job a → AnswersCheck job b → a ≡ b
  one_check job a b (K.refused {r} h) (K.refused {r = s} k) = ap (λ r. told E.Refused (L.Refused r)) (one_refused job r s h k)
  one_check job a b (K.refused {r} h) (K.printed {p = q} {from = place} other accepted) = absurd (never_accepted one_job is_read job r h q place other accepted)
  one_check job a b (K.printed {p} {from} reads accepted) (K.refused {r = s} k) = absurd (never_accepted one_job is_read job s k p from reads accepted)
  one_check job a b (K.printed {p} {from} reads accepted) (K.printed {p = q} {from = place} other also) =
      ap (λ p. record { exit = E.Done; text = canonical_text p }) (one_job job p q from place reads other).0

  abbrev exit_of : ℕ → Exit
  exit_of n =
      get_or
      (E.Done ∷ E.Done ∷ E.Usage ∷ E.ReadFault ∷ E.WriteFault ∷ E.Refused ∷ E.BadData ∷ E.Fault ∷ E.Limit ∷ E.TooLong ∷ E.NoMemory ∷ []) n
      E.Done

  its_exit : (a : Exit) → exit_of (number_of a) ≡ a
  its_exit E.Done = refl
  its_exit E.Usage = refl
  its_exit E.ReadFault = refl
  its_exit E.WriteFault = refl
  its_exit E.Refused = refl
  its_exit E.BadData = refl
  its_exit E.Fault = refl
  its_exit E.Limit = refl
  its_exit E.TooLong = refl
  its_exit E.NoMemory = refl

  same_reply : (a b : Said Exit) → answered_by a ≡ answered_by b → a ≡ b
  same_reply a b h =
      let exits : a.exit ≡ b.exit = sym (its_exit a.exit) ∙ ap (λ (x : Answered). exit_of x.status) h ∙ its_exit b.exit in
      let texts : a.text ≡ b.text = ap (λ (x : Answered). x.text) h in
      ap (λ exit. let r : Said Exit = record { exit = exit; text = a.text } in r) exits ∙ ap (λ text. let r : Said Exit = record { exit = b.exit; text = text } in r) texts

  one_run_answer : (job : List ℕ) (a b : Said Exit) → AnswersRun job a → AnswersRun job b → a ≡ b
  one_run_answer job a b h k = same_reply a b (one_run job (answered_by a) (answered_by b) h k)

  one_job_answer : (Given : List ℕ → Said Exit → Type 0) (job : List ℕ) → ((a b : Said Exit) → Given job a → Given job b → a ≡ b)
      → (a b : Said Exit) → AnswersJob Given job a → AnswersJob Given job b → a ≡ b
  one_job_answer Given job one a b (too_long h) (too_long k) = refl
  one_job_answer Given job one a b (too_long h) (within few k) = absurd (omega arith)
  one_job_answer Given job one a b (within few h) (too_long k) = absurd (omega arith)
  one_job_answer Given job one a b (within few h) (within also k) = one a b h k

  one_command : (command : Option Command) (job : List ℕ) (a b : Said Exit) → AnswersCommand command job a → AnswersCommand command job b → a ≡ b
  one_command (Some C.Check) job a b h k = one_job_answer AnswersCheck job (one_check job) a b h k
  one_command (Some C.Seq) job a b h k = one_job_answer AnswersRun job (one_run_answer job) a b h k
  one_command (Some (C.Sim workers number)) job a b h k = one_job_answer AnswersRun job (one_run_answer job) a b h k
  one_command (Some (C.Gen kind size number)) job a b h k = h ∙ sym k
  one_command (Some (C.Run workers)) job a b h k = one_job_answer AnswersRun job (one_run_answer job) a b h k
  one_command (Some (C.Demo kind size number workers)) job a b h k = one_demo kind size number a b h k
  one_command None job a b h k = h ∙ sym k

pub one_answer : OneJob → OneRefusal → JobIsRead → OneAnswer
one_answer one_job one_refusal is_read command job a b h k = one_command one_job one_refusal is_read command job a b h k
