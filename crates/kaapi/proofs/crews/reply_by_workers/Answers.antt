use Rattle.std.proofs.Common.{sym, subst}
use Rattle.kt_open.specs.Answers.{IsAnswer}
use Rattle.kt_open.specs.Answers.{IsAnswer as I}
use Rattle.kaapi.proofs.JobReplies.{ok_then}
use Rattle.kaapi.proofs.crews.reply_by_workers.Goals as goal

pub returns-in-Ok-clause-answers : goal.returns-in-Ok-clause-answers
returns-in-Ok-clause-answers g c =
    ok_then _ _ _ (rw c.deref.ensures.value at c.run.ensures.answers)
    (λ x same. subst (IsAnswer c.args.job.now) (sym same) (I.ran c.in-Ok.ensures.opened))

pub returns-in_ok-reply_to_unopened-in-Err-clause-answers : goal.returns-in_ok-reply_to_unopened-in-Err-clause-answers
returns-in_ok-reply_to_unopened-in-Err-clause-answers g c =
    c.in_ok-reply_to_unopened-in-Err.ensures.answers c.args.job.now (c.in-Err.ensures.unopened)
