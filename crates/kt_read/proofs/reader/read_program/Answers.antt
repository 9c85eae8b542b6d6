use Rattle.std.proofs.Common.{ℕ, ◌≤◌, List, length, sym, subst}
use Rattle.kt_law.specs.declared.places.Refusal.{Refusal}
use Rattle.kt_tokens.specs.declared.source.Unread.TheVariants as U
use Rattle.kt_read.specs.Jobs.{IsJob, IsUnread}
use Rattle.kt_read.proofs.ReadTexts.{from_start, job_deep, job_read, job_refused, same_bytes}
use Rattle.kt_read.proofs.reader.read_program.Goals as goal

pub returns-in-Ok-clause-job : goal.returns-in-Ok-clause-job
returns-in-Ok-clause-job c =
    let r = rw c.new-source.ensures at c.in-Ok.ensures in
    subst (λ (at : ℕ). IsJob c.args.job.now c.in-Ok.program at) (sym c.at.ensures.at) (job_read r)

pub returns-in-Ok-clause-within : goal.returns-in-Ok-clause-within
returns-in-Ok-clause-within c =
    let r = rw c.new-source.ensures at c.in-Ok.ensures in
    subst (λ (bytes : List ℕ). c.at.result ≤ length bytes) (same_bytes r) c.at.ensures.within

pub returns-in-Err-Refused-clause-refused : goal.returns-in-Err-Refused-clause-refused
returns-in-Err-Refused-clause-refused c =
    let r = from_start c.args.job.now _ _ _ U.Refused c.new-source.ensures c.in-Err-Refused.field-0-is c.in-Err-Refused.ensures in
    subst (λ (refusal : Refusal). IsUnread c.args.job.now refusal) (sym c.refusal.ensures) (job_refused r)

pub returns-in-Err-TooDeep-clause-refused : goal.returns-in-Err-TooDeep-clause-refused
returns-in-Err-TooDeep-clause-refused c =
    let r = from_start c.args.job.now _ _ _ U.TooDeep c.new-source.ensures c.in-Err-TooDeep.field-0-is c.in-Err-TooDeep.ensures in
    subst (λ (refusal : Refusal). IsUnread c.args.job.now refusal) (sym c.at_next.ensures) (job_deep r)
