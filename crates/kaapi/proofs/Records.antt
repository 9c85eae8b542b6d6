-- What a call hands back of a run.
use Rattle.std.proofs.Common.{◌≡◌, ◌≢◌, ◌↔◌, ℕ, Bool, true, false, List, Option, Some, None, refl, ap, sym, subst, ◌∙◌, if◌then◌else◌}
use Rattle.kt_io.specs.Ending.{EndsWith, Said, Sends}
use Rattle.kt_io.specs.Ending.Sends.{whole, part}
use Rattle.kt_io.specs.Over.{Over}
use Rattle.kt_pool.specs.declared.closing.Record.{Record}
use Rattle.kt_prog.specs.LastWriter.{LoadsFindLastWritten}
use Rattle.kt_prog.specs.declared.programs.Program.{Program}
use Rattle.kt_text.specs.Words.{command_of}
use Rattle.kaapi.specs.Answers.{AnswersCommand, PlainAnswers, faults, plain}
use Rattle.kaapi.specs.Exits.{ends_run}
use Rattle.kt_text.specs.declared.commands.Command.{Command}
use Rattle.kaapi.specs.Headline.{Headline, Recorded, RecordedFor}
use Rattle.kaapi.specs.Jobs.{kept}
use Rattle.kaapi.specs.declared.exits.Exit.{Exit}

no_record : (b : Bool) → (let none : Option Record = None in if b then none else none) ≡ None
no_record true = refl
no_record false = refl

kept_whole : (Asked : Program → List ℕ → Type 0) (workers : ℕ) (exit : Exit) (handed : Option Record) → Recorded Asked workers exit handed
    → Recorded Asked workers exit (kept exit handed)
kept_whole Asked workers exit (Some r) h = subst (λ (b : Bool). Recorded Asked workers exit (if b then Some r else None)) (sym h.0) h
kept_whole Asked workers exit None h = subst (λ (o : Option Record). Recorded Asked workers exit o) (sym (no_record (ends_run exit))) h

-- what is kept once the reply was sent, whole or in part
pub kept_is_recorded : (Asked : Program → List ℕ → Type 0) (workers : ℕ) (reply : Said Exit) (sink : Over) (exit : Exit) (handed : Option Record)
    → Sends faults reply sink exit → Recorded Asked workers reply.exit handed → Recorded Asked workers exit (kept exit handed)
kept_is_recorded Asked workers reply sink exit handed (whole is all) h =
    kept_whole Asked workers exit handed (subst (λ (exit : Exit). Recorded Asked workers exit handed) (sym is) h)
kept_is_recorded Asked workers reply sink exit handed (part is faulty some) h =
    subst (λ (exit : Exit). Recorded Asked workers exit (kept exit handed)) (sym is) refl

-- by what the words ask for
pub recorded_for : (job : List ℕ) (exit : Exit) (handed : Option Record) (asked command : Option Command) → asked ≡ command → RecordedFor asked job exit handed
    → RecordedFor command job exit handed
recorded_for job exit handed asked command same h = subst (λ (command : Option Command). RecordedFor command job exit handed) same h

-- what is answered without workers, where the words ask for none
pub plain_headline : (words : List (List ℕ)) (job : List ℕ) (source sink : Over) (exit : Exit) (command : Option Command) → command ≡ command_of words
    → plain command ≡ command → RecordedFor command job exit None → LoadsFindLastWritten
    → EndsWith faults (PlainAnswers words job) source sink exit → Headline words job source sink exit None
plain_headline words job source sink exit command same is none found ends =
    let whole : plain (command_of words) ≡ command_of words = subst (λ (command : Option Command). plain command ≡ command) same is in
    record {
      answered = subst (λ (command : Option Command). EndsWith faults (AnswersCommand command job) source sink exit) whole ends;
      recorded = recorded_for job exit None command (command_of words) same none;
      found = found;
    }
