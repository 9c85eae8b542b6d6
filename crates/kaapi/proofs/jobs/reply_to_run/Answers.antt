use Rattle.std.proofs.Common.{◌≡◌, sym, subst}
use Rattle.kt_prog.specs.Outcome.{outcome_of}
use Rattle.kt_open.specs.Answers.{IsAnswer, answered_run}
use Rattle.kt_open.specs.Answers.{IsAnswer as I}
use Rattle.kaapi.specs.Answers.{answered_by}
use Rattle.kaapi.proofs.JobReplies.{ok_then}
use Rattle.kaapi.proofs.jobs.reply_to_run.Goals as goal

pub returns-in-Ok : goal.returns-in-Ok
returns-in-Ok c =
    let answer = I.ran c.in-Ok.ensures.opened in
    let same = rw c.deref.ensures.value at c.run.ensures in
    ok_then _ (λ reply. answered_by reply ≡ answered_run c.in-Ok.program.families (outcome_of c.in-Ok.program c.in-Ok.input.items).outcome) _ same
    (λ reply is. subst (IsAnswer c.args.job.now) (sym is) answer)

pub returns-in-Err : goal.returns-in-Err
returns-in-Err c = c.reply_to_unopened.ensures.answers c.args.job.now (c.in-Err.ensures.unopened)
