use Rattle.std.proofs.Common.{◌≡◌, sym, subst}
use Rattle.kt_print.specs.declared.lines.Line.TheVariants as L
use Rattle.kaapi.specs.Answers.{AnswersCheck, told}
use Rattle.kaapi.specs.Answers.AnswersCheck.{refused, printed}
use Rattle.kaapi.specs.declared.exits.Exit.TheVariants as E
use Rattle.kaapi.proofs.JobReplies.{ok_then}
use Rattle.kaapi.proofs.jobs.reply_to_check.Goals as goal

pub returns-in-Refused : goal.returns-in-Refused
returns-in-Refused c =
    let h = rw c.in-Refused.is at c.in_ok-refusal.ensures in
    ok_then _ (λ reply. reply ≡ told E.Refused (L.Refused c.in-Refused.refusal)) _ c.reply_with.ensures (λ reply same. subst (AnswersCheck c.args.job.now) (sym same) (refused h))

pub returns-in_ok-text-in-Accepted : goal.returns-in_ok-text-in-Accepted
returns-in_ok-text-in-Accepted c =
    let h = rw c.in-Accepted.is at c.in_ok-refusal.ensures in
    rw (c.new.ensures, c.in_ok-text-in-Accepted.ensures) (printed h.1 h.2)
