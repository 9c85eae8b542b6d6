use Rattle.std.proofs.Common.{◌≡◌, ap, ◌∙◌}
use Rattle.kt_io.specs.Ending.{Said}
use Rattle.kaapi.specs.Answers.{told}
use Rattle.kaapi.specs.Exits.{ends_run}
use Rattle.kaapi.specs.Jobs.{exit_of}
use Rattle.kaapi.specs.declared.exits.Exit.{Exit}
use Rattle.kaapi.proofs.JobReplies.{by_line, line_is_no_run, of_line, ok_then}
use Rattle.kaapi.proofs.jobs.reply_to_unopened.Goals as goal

pub returns-in-Line-clause-answers : goal.returns-in-Line-clause-answers
returns-in-Line-clause-answers c = λ job unopened.
    let h = rw c.in-Line.is at unopened in
    ok_then _ (λ reply. reply ≡ told c.exit_of.result c.in-Line.line) _ c.reply_with.ensures
    (λ reply same. of_line job (exit_of c.in-Line.line) c.in-Line.line reply (by_line job h.0 c.in-Line.line h.1)
    (same ∙ ap (λ (exit : Exit). told exit c.in-Line.line) c.exit_of.ensures))

pub returns-in-Line-clause-unrun : goal.returns-in-Line-clause-unrun
returns-in-Line-clause-unrun c =
    ok_then _ (λ reply. reply ≡ told c.exit_of.result c.in-Line.line) _ c.reply_with.ensures
    (λ reply same. ap (λ (reply : Said Exit). ends_run reply.exit) same ∙ ap ends_run c.exit_of.ensures ∙ line_is_no_run c.in-Line.line)
