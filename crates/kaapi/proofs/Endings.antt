-- How the parts of a call come together.
use Rattle.std.proofs.Common.{◌≡◌, ℕ, List, [], Bool, false, refl, ap, subst, sym, ◌∙◌}
use Rattle.std.specs.Prelude.{Some, None}
use Rattle.std.specs.declared.option.Option.{Option}
use Rattle.std.specs.Io.KnownBytes.{Keeps}
use Rattle.kt_io.specs.Streams.{Tells}
use Rattle.kt_io.specs.Over.{Over}
use Rattle.kt_io.specs.Ending.{EndsWith, ForJob, Said, Sends, SendsOrLacks}
use Rattle.kt_io.specs.Ending.EndsWith.{answered, fails_to_read, lacks_memory}
use Rattle.kt_io.specs.Ending.Sends.{whole, part}
use Rattle.kt_io.specs.Ending.SendsOrLacks.{sends, lacks}
use Rattle.kt_text.specs.Words.{command_of}
use Rattle.kt_text.specs.declared.commands.Command.{Command}
use Rattle.kaapi.specs.Answers.{Answers, AnswersCommand, AnswersJob, AnswersNone, PlainAnswers, faults, plain}
use Rattle.kaapi.specs.Answers.AnswersJob.{too_long, within}
use Rattle.kaapi.specs.Exits.{ends_run}
use Rattle.kaapi.specs.declared.exits.Exit.{Exit}

pub keeps_same : (told : Option (List ℕ)) → Keeps told told
keeps_same None = tt
keeps_same (Some xs) = refl

-- whatever the source's bytes are
pub for_any_job : (left : Option (List ℕ)) (P : List ℕ → Type 0) → ((job : List ℕ) → P job) → ForJob left P
for_any_job left P holds =
    let go : (told : Option (List ℕ)) → (job : List ℕ) × Tells told job = elim [ None ↦ ([], tt) | Some xs ↦ (xs, refl) ] in
    let job = go left in
    record { job = job.0; told = job.1; holds = holds job.0 }

-- what follows for each job
pub for_job_then : (left : Option (List ℕ)) (P Q : List ℕ → Type 0) → ((job : List ℕ) → P job → Q job) → ForJob left P → ForJob left Q
for_job_then left P Q then_holds here = record { job = here.job; told = here.told; holds = then_holds here.job here.holds }

-- a reply of which the one holds is one of which the other holds
pub ends : (P Q : Said Exit → Type 0) (source sink : Over) (exit : Exit) → ((reply : Said Exit) → P reply → Q reply) → SendsOrLacks faults P sink exit → EndsWith faults Q source sink exit
ends P Q source sink exit f (sends reply holds sent) = answered reply (f reply holds) sent
ends P Q source sink exit f (lacks is unwritten) = lacks_memory is unwritten

-- the same of calls that end
pub ends_then : (P Q : Said Exit → Type 0) (source sink : Over) (exit : Exit) → ((reply : Said Exit) → P reply → Q reply) → EndsWith faults P source sink exit → EndsWith faults Q source sink exit
ends_then P Q source sink exit f (answered reply holds sent) = answered reply (f reply holds) sent
ends_then P Q source sink exit f (fails_to_read is faulty unwritten) = fails_to_read is faulty unwritten
ends_then P Q source sink exit f (lacks_memory is unwritten) = lacks_memory is unwritten

-- a job that is too long is answered alike, whatever is asked
pub none_then : (Given : List ℕ → Said Exit → Type 0) (job : List ℕ) (reply : Said Exit) → AnswersJob AnswersNone job reply → AnswersJob Given job reply
none_then Given job reply (too_long long) = too_long long
none_then Given job reply (within few none) = absurd none

too_long_is_no_run : (job : List ℕ) (reply : Said Exit) → AnswersJob AnswersNone job reply → ends_run reply.exit ≡ false
too_long_is_no_run job reply (too_long long) = refl
too_long_is_no_run job reply (within few none) = absurd none

sent_is_no_run : (reply : Said Exit) (sink : Over) (exit : Exit) → ends_run reply.exit ≡ false → Sends faults reply sink exit → ends_run exit ≡ false
sent_is_no_run reply sink exit none (whole is all) = ap ends_run is ∙ none
sent_is_no_run reply sink exit none (part is faulty some) = ap ends_run is

-- where no job of so few bytes is answered, no run ends
pub ends_no_run : (job : List ℕ) (source sink : Over) (exit : Exit) → EndsWith faults (AnswersJob AnswersNone job) source sink exit → ends_run exit ≡ false
ends_no_run job source sink exit (answered reply holds sent) = sent_is_no_run reply sink exit (too_long_is_no_run job reply holds) sent
ends_no_run job source sink exit (fails_to_read is faulty unwritten) = ap ends_run is
ends_no_run job source sink exit (lacks_memory is unwritten) = ap ends_run is

-- what the words ask for is this
pub of_command : (words : List (List ℕ)) (job : List ℕ) (source sink : Over) (exit : Exit) (command : Option Command) → command ≡ command_of words →
    EndsWith faults (AnswersCommand command job) source sink exit → EndsWith faults (Answers words job) source sink exit
of_command words job source sink exit command same h = subst (λ command. EndsWith faults (AnswersCommand command job) source sink exit) same h

-- the same without workers
pub of_plain : (words : List (List ℕ)) (job : List ℕ) (source sink : Over) (exit : Exit) (command : Option Command) → command ≡ command_of words →
    EndsWith faults (AnswersCommand (plain command) job) source sink exit → EndsWith faults (PlainAnswers words job) source sink exit
of_plain words job source sink exit command same h = subst (λ command. EndsWith faults (AnswersCommand (plain command) job) source sink exit) same h
